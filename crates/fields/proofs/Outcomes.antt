-- What a step of the walk gives, and what that says of the body: each by the tests of its definition.
use Prim.Native.Nat.{ℕ, ◌+◌, ◌-◌, ◌*◌, ◌%◌, ◌<◌, ◌≤◌}
use mathlib.Core.Path.{◌≡◌}
use mathlib.Core.Bool.{true, false}
use mathlib.Core.List.{List}
use native.Mathlib.Omega.{arith}
use lib.ListN.{length}
use Rattle.fields.specs.Stored.{blocks_of, room_of, fill_of}
use Rattle.fields.specs.Step.{len_at, kind_at, passed, after, taken_at, end_with_data, step_of}
use Rattle.std.proofs.lemmas.Bool.Decides.{nat_tests}
use Rattle.std.proofs.Common.{None, Some, Ok, Err}
use Rattle.fields.specs.declared.Cursor.{Cursor}
use Rattle.fields.specs.declared.Taken.{Taken}
use Rattle.fields.specs.declared.WalkRefusal.TheVariants.{Broken}

-- length, type, data and fill make up the field's blocks
pub room_fill : (n : ℕ) → 5 + n + fill_of n ≡ room_of n
room_fill n = omega arith

-- the blocks hold 5 + n bytes, and no smaller number of blocks does
pub blocks_hold : (n : ℕ) → 5 + n ≤ 16 * blocks_of n
blocks_hold n = omega arith

pub blocks_least : (n k : ℕ) → 5 + n ≤ 16 * k → blocks_of n ≤ k
blocks_least n k h = omega arith

pub took : (s : List ℕ) (c : Cursor) → c.place % 16 ≡ 0 → c.place ≤ length s → (c.place ≡ length s → ⊥) → 16 ≤ length s - c.place
    → room_of (len_at s c.place) ≤ length s - c.place → end_with_data (kind_at s c.place) (len_at s c.place) ≡ false
    → step_of s c ≡ Ok (Some (taken_at s c))
unfolding step_of
took s c a b d e f h = grind (arith, nat_tests)

-- the other outcomes behind that, and what is taken, made of what stands at the place
module _ (s : List ℕ) (c : Cursor) (a : c.place % 16 ≡ 0) (b : c.place ≤ length s) (no : c.place ≡ length s → ⊥) (e : 16 ≤ length s - c.place) where
  pub short : length s - c.place < room_of (len_at s c.place) → Err Broken ≡ step_of s c
  unfolding step_of
  short h = grind (arith, nat_tests)

  module _ (f : room_of (len_at s c.place) ≤ length s - c.place) where
    pub ended : end_with_data (kind_at s c.place) (len_at s c.place) ≡ true → Err Broken ≡ step_of s c
    unfolding step_of
    ended h = grind (arith, nat_tests)

    pub built : (n m : ℕ) (d : Cursor) → end_with_data (kind_at s c.place) (len_at s c.place) ≡ false
        → n ≡ len_at s c.place → m ≡ room_of (len_at s c.place) → d ≡ passed (c.place + m) c.in_record (kind_at s c.place)
        → Ok (Some (record { kind = kind_at s c.place; len = n; next = d })) ≡ step_of s c
    built n m d h hn hm hd = rw (hd, hn, hm, took s c a b no e f h)

pub at_end : (s : List ℕ) (c : Cursor) → c.place % 16 ≡ 0 → c.place ≡ length s → step_of s c ≡ Ok None
unfolding step_of
at_end s c a b = grind (arith, nat_tests)

-- What is known where t was taken.
pub record IsTaken (s : List ℕ) (c : Cursor) (t : Taken) : Type 0 where
  pub aligned : c.place % 16 ≡ 0
  pub inside : c.place + room_of (len_at s c.place) ≤ length s
  pub no_data : end_with_data (kind_at s c.place) (len_at s c.place) ≡ false
  pub kind : t.kind ≡ kind_at s c.place
  pub len : t.len ≡ len_at s c.place
  pub next : t.next ≡ after s c

module _ (s : List ℕ) (c : Cursor) (t : Taken) (e : step_of s c ≡ Ok (Some t)) where
  pub taken : IsTaken s c t
  unfolding step_of
  taken = grind (arith, nat_tests)

  pub next_place : t.next.place ≡ c.place + room_of (len_at s c.place)
  next_place = grind (arith, taken)

  -- the cursor moves on, block by block, and stays within the body
  pub forward : (c.place + 16 ≤ t.next.place) × (t.next.place ≤ length s) × (t.next.place % 16 ≡ 0)
  forward = grind (arith, taken, next_place)

  -- the data lie within the field, the field within the body
  pub data_inside : (c.place + 5 + t.len ≤ t.next.place) × (t.next.place ≤ length s)
  data_inside = grind (arith, taken, next_place)

pub end_only : (s : List ℕ) (c : Cursor) → step_of s c ≡ Ok None → c.place ≡ length s
unfolding step_of
end_only s c h = grind (arith, nat_tests)
