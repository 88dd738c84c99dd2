-- What a judged area as a result stands for.
use Rattle.std.specs.Prelude.{Result, Ok, Err}
use Rattle.rules.specs.declared.refusal.Refusal.{Refusal}
use Rattle.rules.specs.Refused.{code_of}
use Rattle.office_forms.specs.declared.area.Formed.{Formed}
use Rattle.office_forms.specs.Codes.{Judged}

abbrev pub told : Result Formed Refusal → Judged
told (Ok f) = record { code = 0; stolen = f.stolen }
told (Err e) = record { code = code_of e; stolen = 0 }
