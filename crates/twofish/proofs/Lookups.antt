-- The four look-ups in the tables that a list l fills are h of l, and so g: each entry is one column of the MDS matrix times y of a byte, and the
-- columns add up to the product.
use mathlib.Core.Path.{◌≡◌, sym, ap₂, ◌∙◌, fun_ext}
use mathlib.Core.List.{List, [], ◌∷◌}
use Prim.Native.Nat.{ℕ, zero, suc, ◌<◌}
use borrow.Author.Tests.{ne_eqb}
use native.Mathlib.Omega.{arith}
use Rattle.words.specs.Numbers.{byte_of}
use Rattle.words.specs.Table.{at}
use Rattle.words.proofs.Tables.{at_table}
use Rattle.twofish.specs.Field.{◌⊕◌}
use Rattle.twofish.specs.Q.{q0, q1}
use Rattle.twofish.specs.Key.{y0, y1, y2, y3, mds, h}
use Rattle.twofish.specs.Columns.{column}
use Rattle.twofish.specs.Tabled.{y, entry, filled, tabled_g}
use Rattle.twofish.proofs.ColumnSums.{columns, only0, only1, only2, only3}
use Rattle.twofish.proofs.Permutations.{q0_byte, q1_byte}

-- over any two permutations that give bytes
module _ (p q : ℕ → ℕ) (p_byte : (x : ℕ) → p x < 256) (q_byte : (x : ℕ) → q x < 256) (l : List ℕ) where
  bytes : (x : ℕ) → (y0 p q l x < 256) × (y1 p q l x < 256) × (y2 p q l x < 256) × (y3 p q l x < 256)
  unfolding y0 y1 y2 y3
  bytes x = (q_byte _, p_byte _, q_byte _, p_byte _)

  -- an entry is a column alone
  pub entry_is : (j x : ℕ) → column j (y p q l j x) ≡ entry p q l j x
  unfolding column y entry
  entry_is zero x = only0 _ (bytes x).0
  entry_is (suc zero) x = only1 _ (bytes x).1
  entry_is (suc (suc zero)) x = only2 _ (bytes x).2
  entry_is (suc (suc (suc j))) x =
      let k = suc (suc (suc j)) in
      rw (ne_eqb k 0 (omega arith), ne_eqb k 1 (omega arith), ne_eqb k 2 (omega arith)) (only3 _ (bytes x).3)

  -- the entries of the four bytes of a word add up to h
  pub added : (x : ℕ)
      → entry p q l 0 (byte_of 0 x) ⊕ entry p q l 1 (byte_of 1 x) ⊕ entry p q l 2 (byte_of 2 x) ⊕ entry p q l 3 (byte_of 3 x) ≡ h p q l x
  unfolding entry h
  added x =
      let a = bytes (byte_of 0 x) in
      let b = bytes (byte_of 1 x) in
      let c = bytes (byte_of 2 x) in
      let d = bytes (byte_of 3 x) in
      ap₂ ◌⊕◌ (ap₂ ◌⊕◌ (ap₂ ◌⊕◌ (sym (only0 _ a.0)) (sym (only1 _ b.1))) (sym (only2 _ c.2))) (sym (only3 _ d.3))
      ∙ columns _ _ _ _ a.0 b.1 c.2 d.3

module _ (l : List ℕ) where
  -- every entry of a table that was filled
  pub every_entry : (j x : ℕ) → x < 256 → at (filled q0 q1 l j) x ≡ entry q0 q1 l j x
  unfolding filled
  every_entry j = at_table 256 (entry q0 q1 l j)

  -- in the words of the paper, table by table
  pub entry0 : (x : ℕ) → x < 256 → at (filled q0 q1 l 0) x ≡ mds (y0 q0 q1 l x) 0 0 0
  unfolding entry
  entry0 = every_entry 0

  pub entry1 : (x : ℕ) → x < 256 → at (filled q0 q1 l 1) x ≡ mds 0 (y1 q0 q1 l x) 0 0
  unfolding entry
  entry1 = every_entry 1

  pub entry2 : (x : ℕ) → x < 256 → at (filled q0 q1 l 2) x ≡ mds 0 0 (y2 q0 q1 l x) 0
  unfolding entry
  entry2 = every_entry 2

  pub entry3 : (x : ℕ) → x < 256 → at (filled q0 q1 l 3) x ≡ mds 0 0 0 (y3 q0 q1 l x)
  unfolding entry
  entry3 = every_entry 3

  -- the four tables
  abbrev pub tables : List (List ℕ)
  tables = filled q0 q1 l 0 ∷ filled q0 q1 l 1 ∷ filled q0 q1 l 2 ∷ filled q0 q1 l 3 ∷ []

  looked : (x : ℕ) → tabled_g tables x ≡ h q0 q1 l x
  unfolding tabled_g
  looked x =
      let p = every_entry 0 (byte_of 0 x) (omega arith) in
      let q = every_entry 1 (byte_of 1 x) (omega arith) in
      let r = every_entry 2 (byte_of 2 x) (omega arith) in
      let s = every_entry 3 (byte_of 3 x) (omega arith) in
      ap₂ ◌⊕◌ (ap₂ ◌⊕◌ (ap₂ ◌⊕◌ p q) r) s ∙ added q0 q1 q0_byte q1_byte l x

  pub looked_up : tabled_g tables ≡ h q0 q1 l
  looked_up = fun_ext looked
