-- What a state says of a login: by the length, and what is told of what is found.
use mathlib.Core.Path.{◌≡◌, ap, ◌∙◌}
use mathlib.Core.List.{List}
use Prim.Native.Nat.{ℕ}
use borrow.Author.Tests.{eq-eqb, ne_eqb}
use lib.ListN.{length}
use Rattle.std.specs.Prelude.{Option}
use Rattle.replay.specs.State.{found_in}
use Rattle.replay.specs.Replay.{Stood, no_state, told_at, standing_of}

pub stands_not : (s u : List ℕ) → (length s ≡ 131072 → ⊥) → no_state ≡ standing_of s u
unfolding standing_of
stands_not s u h = rw (ne_eqb (length s) 131072 h)

pub stands_at : (s u : List ℕ) (o : Option ℕ) (x : Stood) → length s ≡ 131072 → o ≡ found_in s u → x ≡ told_at s o → x ≡ standing_of s u
unfolding standing_of
stands_at s u o x h p e = e ∙ ap (told_at s) p ∙ rw (eq-eqb (length s) 131072 h)
