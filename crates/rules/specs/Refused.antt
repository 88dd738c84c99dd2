-- Document 01's number of each refusal. What a test answers stands for the code that its definition gives: 0 where it passes.
use Rattle.std.specs.Prelude.{ℕ, Result, Ok, Err}
use Rattle.rules.specs.declared.refusal.Refusal.{Refusal}
use Rattle.rules.specs.declared.refusal.Refusal.TheVariants as refusal

abbrev pub code_of : Refusal → ℕ
code_of refusal.NotFormed = 1
code_of refusal.NoSuchKind = 2
code_of refusal.NoSuchTeam = 3
code_of refusal.NoSuchNode = 4
code_of refusal.HasOwner = 5
code_of refusal.Completed = 6
code_of refusal.Amount = 7
code_of refusal.NotOwner = 8
code_of refusal.Stolen = 9
code_of refusal.OldPosition = 10
code_of refusal.NoOwner = 11
code_of refusal.IsOwner = 12
code_of refusal.LastSheet = 13
code_of refusal.NoRoom = 14
code_of refusal.NotStolen = 15
code_of refusal.AlreadySplit = 16
code_of refusal.NoSlots = 17
code_of refusal.FewRecords = 18
code_of refusal.Unfit = 19
code_of refusal.Opening = 20
code_of refusal.TooLong = 21
code_of refusal.WrongByte = 22
code_of refusal.LargeNumber = 23
code_of refusal.HeaderCount = 24
code_of refusal.Negative = 25
code_of refusal.Stranger = 26
code_of refusal.ShortSchedule = 27
code_of refusal.ShortLine = 28
code_of refusal.NotEnded = 31
code_of refusal.Reported = 32
code_of refusal.Result = 33
code_of refusal.Pushed = 34
code_of refusal.NoReport = 35
code_of refusal.NotReady = 36
code_of refusal.Short = 37

-- the code that a test's answer stands for
abbrev pub code_in : {A : Type 0} → Result A Refusal → ℕ
code_in (Ok _) = 0
code_in (Err e) = code_of e
