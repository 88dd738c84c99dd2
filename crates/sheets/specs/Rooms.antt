-- The rooms in which the listing of a text is whole: those that no text finds too short, and smaller ones for a short text.
use Rattle.std.specs.Prelude.{◌≡◌, ℕ, ◌*◌, ◌^◌, ◌<◌, ◌⊎◌, List, length}
use Rattle.text_rules.specs.Demands.{schedule_room}
use Rattle.listing_rules.specs.Demands.{listing_room, short_schedule_room, short_listing_room}

-- areas for so many schedule numbers and so many bytes fit in memory, and are those that the program lends a text: a short one gets the
-- short ones
pub record Enough (steps room : ℕ) (text : List ℕ) : Type 0 where
  pub fits : room < 2 ^ 63
  pub lent :
      ((steps ≡ schedule_room) × (room ≡ listing_room))
      ⊎ ((steps ≡ short_schedule_room) × (room ≡ short_listing_room) × (length text < 2 * steps))
