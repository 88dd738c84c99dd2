-- The layout's numbers by example.
use mathlib.Core.Path.{refl}
use Rattle.layout.specs.Numbers.{number_at, four, signed_of, bits_of}
use Rattle.layout.specs.Demands.{ByHand}

pub by_hand : ByHand
unfolding number_at four signed_of bits_of
by_hand = record { bytes = refl; number = refl; greatest = refl; least = refl; minus_one = refl }
