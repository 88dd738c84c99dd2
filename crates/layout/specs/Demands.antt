-- "Prove that bytes and records stand for each other one to one on well-formed ledgers."
use Rattle.std.specs.Prelude.{ℕ, ◌-◌, ◌≤◌, ◌≡◌, List, [], ◌∷◌, ◌++◌, pos, negsuc, length, take}
use Rattle.rules.specs.declared.Ledger.{Ledger}
use Rattle.rules.specs.WellFormed.{Sound}
use Rattle.layout.specs.Sizes.{area_size}
use Rattle.layout.specs.Numbers.{Bytes, words, number_at, four, signed_of, bits_of}
use Rattle.layout.specs.Areas.{decoded, encoded}

-- "little-endian 32-bit, two's complement", by example
pub record ByHand : Type 0 where
  pub bytes : four 67305985 ≡ 1 ∷ 2 ∷ 3 ∷ 4 ∷ []
  pub number : number_at (9 ∷ 1 ∷ 2 ∷ 3 ∷ 4 ∷ []) 1 ≡ 67305985
  pub greatest : signed_of 2147483647 ≡ pos 2147483647
  pub least : signed_of 2147483648 ≡ negsuc 2147483647
  pub minus_one : bits_of (negsuc 0) ≡ words - 1

-- bytes in an area that is as long as its own nodes number says
pub record Area (bs : List ℕ) : Type 0 where
  pub bytes : Bytes bs
  pub long : area_size (decoded bs).room ≤ length bs

-- the bytes that stand for the ledger: those after them are the caller's
abbrev pub in_use : List ℕ → List ℕ
in_use bs = take (area_size (decoded bs).room) bs

-- Decoding what was encoded gives the ledger back, whatever bytes follow.
abbrev pub LedgerBack : Type 0
LedgerBack = (l : Ledger) (tail : List ℕ) → Sound l → decoded (encoded l ++ tail) ≡ l

-- Encoding what was decoded gives the bytes back: of a well-formed ledger, and of any other too.
abbrev pub BytesBack : Type 0
BytesBack = (bs : List ℕ) → Area bs → encoded (decoded bs) ≡ in_use bs

-- Two areas that stand for one ledger have the same bytes in use.
abbrev pub OneToOne : Type 0
OneToOne = (cs bs : List ℕ) → Area cs → Area bs → decoded cs ≡ decoded bs → in_use cs ≡ in_use bs

-- A ledger's bytes are an area: as long as its room says, and each of them a byte.
abbrev pub EncodedIsArea : Type 0
EncodedIsArea = (l : Ledger) (tail : List ℕ) → Bytes tail → Sound l → Area (encoded l ++ tail)
