-- Each full table follows its rule from the four tables of 4 bits, and gives bytes: by computed tests of its 256 entries, and then entry by entry.
use mathlib.Core.Path.{◌≡◌, refl, sym, subst}
use mathlib.Core.List.{List}
use Prim.Native.Nat.{ℕ, ◌%◌, ◌<◌}
use native.Mathlib.Omega.{arith}
use lib.Dec.{T, eqb, lit<}
use lib.ListN.{length}
use Rattle.words.specs.Rotation.{rotate_right}
use Rattle.words.specs.Table.{at, table}
use Rattle.twofish.specs.Q.{q0, q1, rule0, rule1, table0, table1}
use Rattle.words.proofs.Every.{all, agree}
use Rattle.words.proofs.Tables.{at_table, table_fits, is_table}

-- a list of 256 bytes that passes the test is the full table
pub follows : (rule : ℕ → ℕ) (l : List ℕ) → length l ≡ 256 → T (all (λ k. eqb (at l k) (rule k)) 256) → l ≡ table 256 rule
follows rule l e t = is_table 256 rule l e (agree (at l) rule 256 t)

pub q0_rule : (x : ℕ) → x < 256 → q0 x ≡ rule0 x
unfolding table0
q0_rule = at_table 256 rule0

pub q1_rule : (x : ℕ) → x < 256 → q1 x ≡ rule1 x
unfolding table1
q1_rule = at_table 256 rule1

-- and gives bytes: it follows its rule modulo 256 as well
bytes : (rule : ℕ → ℕ) → T (all (λ k. eqb (at (table 256 rule) k) (rule k % 256)) 256) → (x : ℕ) → at (table 256 rule) x < 256
bytes rule t x =
    subst (λ (l : List ℕ). at l x < 256) (sym (follows (λ k. rule k % 256) (table 256 rule) refl t))
    (table_fits 256 256 (λ k. rule k % 256) x (lit< tt) (λ k. omega arith))

pub q0_byte : (x : ℕ) → q0 x < 256
unfolding table0 rule0 rotate_right
q0_byte = bytes rule0 tt

pub q1_byte : (x : ℕ) → q1 x < 256
unfolding table1 rule1 rotate_right
q1_byte = bytes rule1 tt
