-- Refusals in order: a table of tests, each with its number (document 01, "Numbers of refusal"). The first test that fails decides.
use Rattle.std.specs.Prelude.{ℕ, ◌≡◌, Bool, true, false, cond, List, [], ◌∷◌}

pub record Test : Type 0 where
  pub number : ℕ
  pub fails : Bool

abbrev pub refuse_if : ℕ → Bool → Test
refuse_if n b = record { number = n; fails = b }

abbrev pub deciding : {A : Type 0} → (ℕ → A) → List Test → A → A
deciding refuse [] y = y
deciding refuse (t ∷ ts) y = cond t.fails (refuse t.number) (deciding refuse ts y)

-- the first that fails has number k
pub data First (k : ℕ) : List Test → Type 0 where
  here : {t : Test} {ts : List Test} → t.number ≡ k → t.fails ≡ true → First k (t ∷ ts)
  later : {t : Test} {ts : List Test} → t.fails ≡ false → First k ts → First k (t ∷ ts)
