-- Where a number or a result of a node stands in its 48 bytes.
use Rattle.std.specs.Prelude.{ℕ}
use Rattle.layout.specs.declared.places.Field.{Field}
use Rattle.layout.specs.declared.places.Field.TheVariants as field
use Rattle.layout.specs.declared.places.Found.{Found}
use Rattle.layout.specs.declared.places.Found.TheVariants as found
use Rattle.layout.specs.Sizes.{progress_place, owner_place, left_place, own_place, joined_place, stage_place}

abbrev pub place_of : Field → ℕ
place_of field.Start = 0
place_of field.Until = 4
place_of field.Progress = progress_place
place_of field.Owner = owner_place
place_of field.Left = left_place
place_of field.Stage = stage_place

abbrev pub result_place : Found → ℕ
result_place found.Own = own_place
result_place found.Joined = joined_place
