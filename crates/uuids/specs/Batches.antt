-- How the code goes on: from UUID to UUID, and from batch to batch. Nothing here is to be believed: no contract of a public function mentions it.
use Rattle.std.specs.Prelude.{ℕ, ◌+◌, ◌*◌, ◌<◌, ◌≤◌, ◌≡◌, cond, List, [], ◌∷◌, ltb, length, get_or, drop, Option, None, Some, IfSome}
use Rattle.std.specs.Option.{unwrap_or}
use Rattle.uuids.specs.Uuids.{uuids_from, Again}
use Rattle.uuids.specs.Table.{id_at}
use Rattle.uuids.specs.declared.batch.Went.{Went}

-- the next UUID stands at p, some blocks on; its field ends 27 bytes further
pub record NextAt (s : List ℕ) (from p : ℕ) : Type 0 where
  pub next : uuids_from s from ≡ id_at s p ∷ uuids_from s (p + 27)
  pub blocks : ℕ
  pub on : p ≡ from + 5 + 16 * blocks
  pub within : p + 27 ≤ length s

abbrev pub Stepping : List ℕ → ℕ → Option ℕ → Type 0
Stepping s from (Some p) = NextAt s from p
Stepping s from None = uuids_from s from ≡ []

-- no slot is taken
pub record NoMembers (slots : List ℕ) : Type 0 where
  pub long : length slots ≡ 26624
  pub zero : (i : ℕ) → get_or slots i 0 ≡ 0

-- of the list us, whose first is number n: none below the hit, or the limit where there is none, is the same as an earlier one of the first h, and the hit, below the
-- limit, is the same as an earlier one
pub record Best (us : List (List ℕ)) (h n limit : ℕ) (hit : Option ℕ) : Type 0 where
  pub none : (i j : ℕ) → n + i < unwrap_or hit limit → i < length us → j < i → j < h → get_or us j [] ≡ get_or us i [] → ⊥
  pub some : IfSome hit (λ b. (b < limit) × (i : ℕ) × (b ≡ n + i) × (i < length us) × Again us i)

-- the UUIDs from the one at base on: those of the batch that begins there, and all later ones
abbrev pub on_from : List ℕ → ℕ → List (List ℕ)
on_from s base = id_at s base ∷ uuids_from s (base + 27)

-- what is known after the batch that begins at base: its members are the first of those from there on
pub record Passing (s : List ℕ) (base n limit : ℕ) (w : Went) : Type 0 where
  pub best : Best (on_from s base) w.members n limit w.hit
  pub rest : uuids_from s w.next ≡ drop w.members (on_from s base)
  pub some : 1 ≤ w.members
  pub enough : w.members ≤ length (on_from s base)

-- best is a UUID's number, or n for none
abbrev pub answer_of : ℕ → ℕ → Option ℕ
answer_of best n = cond (ltb best n) (Some best) None
