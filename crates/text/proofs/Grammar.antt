-- The run over the bytes accepts the texts of the grammar, and no others: character by character one way, and by the state that each byte leaves the other.
use Prim.Native.Nat.{ℕ, zero, suc, ◌-◌, ◌≤◌, ◌<◌}
use mathlib.Core.Path.{◌≡◌, refl, ap, ◌∙◌}
use mathlib.Core.Logic.{◌↔◌}
use mathlib.Core.Bool.{Bool, true, false, cond, false≢true}
use mathlib.Core.List.{List, [], ◌∷◌, ◌++◌}
use native.Mathlib.Omega.{arith}
use native.Mathlib.Decide.{dec_lt}
use lib.Dec.{ltb, leb, eqb}
use borrow.Author.Tests.{lt-ltb, le-ltb, ne_eqb, ltb-true, ltb-false, eqb-true, eqb-false, leb-true, leb-false}
use Rattle.text.specs.declared.Utf8.{Utf8}
use Rattle.text.specs.declared.Utf8.TheVariants.{Start, More, Bad}
use Rattle.text.specs.Decision.{first_of, after_byte, ends_whole, utf8_of}
use Rattle.text.specs.Grammar.{Within, Tail, Character, one, two, three_e0, three_e1, three_ed, three_ee, four_f0, four_f1, four_f4, WellFormedUtf8, end, char}

-- the grammar's texts are accepted
last : (low high b : ℕ) → Within b low high → after_byte (More 1 low high) b ≡ Start
last low high b w = rw (le-ltb b low w.0, le-ltb high b w.1)

next₂ : (low high b : ℕ) → Within b low high → after_byte (More 2 low high) b ≡ More 1 0x80 0xbf
next₂ low high b w = rw (le-ltb b low w.0, le-ltb high b w.1)

next₃ : (low high b : ℕ) → Within b low high → after_byte (More 3 low high) b ≡ More 2 0x80 0xbf
next₃ low high b w = rw (le-ltb b low w.0, le-ltb high b w.1)

module _ (b : ℕ) where
  first_one : b ≤ 0x7f → first_of b ≡ Start
  first_one h = rw (lt-ltb b 0x80 (omega arith))

  first_two : Within b 0xc2 0xdf → first_of b ≡ More 1 0x80 0xbf
  first_two w = rw (le-ltb b 0x80 (omega arith), le-ltb b 0xc2 (omega arith), lt-ltb b 0xe0 (omega arith))

  first_e1 : Within b 0xe1 0xec → first_of b ≡ More 2 0x80 0xbf
  first_e1 w =
      rw (
        le-ltb b 0x80 (omega arith),
        le-ltb b 0xc2 (omega arith),
        le-ltb b 0xe0 (omega arith),
        ne_eqb b 0xe0 (λ e. omega arith),
        ne_eqb b 0xed (λ e. omega arith),
        lt-ltb b 0xf0 (omega arith),
      )

  first_ee : Within b 0xee 0xef → first_of b ≡ More 2 0x80 0xbf
  first_ee w =
      rw (
        le-ltb b 0x80 (omega arith),
        le-ltb b 0xc2 (omega arith),
        le-ltb b 0xe0 (omega arith),
        ne_eqb b 0xe0 (λ e. omega arith),
        ne_eqb b 0xed (λ e. omega arith),
        lt-ltb b 0xf0 (omega arith),
      )

  first_f1 : Within b 0xf1 0xf3 → first_of b ≡ More 3 0x80 0xbf
  first_f1 w =
      rw (
        le-ltb b 0x80 (omega arith),
        le-ltb b 0xc2 (omega arith),
        le-ltb b 0xe0 (omega arith),
        ne_eqb b 0xe0 (λ e. omega arith),
        ne_eqb b 0xed (λ e. omega arith),
        le-ltb b 0xf0 (omega arith),
        ne_eqb b 0xf0 (λ e. omega arith),
        lt-ltb b 0xf4 (omega arith),
      )

passes : {xs : List ℕ} → Character xs → (ys : List ℕ) → ends_whole Start (xs ++ ys) ≡ ends_whole Start ys
unfolding ends_whole
passes (one {b} h) ys =
    ap (λ (u : Utf8). ends_whole u ys) (first_one b h)
passes (two {b} {c} h i) ys =
    ap (λ (u : Utf8). ends_whole (after_byte u c) ys) (first_two b h)
    ∙ ap (λ (u : Utf8). ends_whole u ys) (last 0x80 0xbf c i)
passes (three_e0 {c} {d} h i) ys =
    ap (λ (u : Utf8). ends_whole (after_byte u d) ys) (next₂ 0xa0 0xbf c h)
    ∙ ap (λ (u : Utf8). ends_whole u ys) (last 0x80 0xbf d i)
passes (three_e1 {b} {c} {d} h i j) ys =
    ap (λ (u : Utf8). ends_whole (after_byte (after_byte u c) d) ys) (first_e1 b h)
    ∙ ap (λ (u : Utf8). ends_whole (after_byte u d) ys) (next₂ 0x80 0xbf c i)
    ∙ ap (λ (u : Utf8). ends_whole u ys) (last 0x80 0xbf d j)
passes (three_ed {c} {d} h i) ys =
    ap (λ (u : Utf8). ends_whole (after_byte u d) ys) (next₂ 0x80 0x9f c h)
    ∙ ap (λ (u : Utf8). ends_whole u ys) (last 0x80 0xbf d i)
passes (three_ee {b} {c} {d} h i j) ys =
    ap (λ (u : Utf8). ends_whole (after_byte (after_byte u c) d) ys) (first_ee b h)
    ∙ ap (λ (u : Utf8). ends_whole (after_byte u d) ys) (next₂ 0x80 0xbf c i)
    ∙ ap (λ (u : Utf8). ends_whole u ys) (last 0x80 0xbf d j)
passes (four_f0 {c} {d} {e} h i j) ys =
    ap (λ (u : Utf8). ends_whole (after_byte (after_byte u d) e) ys) (next₃ 0x90 0xbf c h)
    ∙ ap (λ (u : Utf8). ends_whole (after_byte u e) ys) (next₂ 0x80 0xbf d i)
    ∙ ap (λ (u : Utf8). ends_whole u ys) (last 0x80 0xbf e j)
passes (four_f1 {b} {c} {d} {e} h i j k) ys =
    ap (λ (u : Utf8). ends_whole (after_byte (after_byte (after_byte u c) d) e) ys) (first_f1 b h)
    ∙ ap (λ (u : Utf8). ends_whole (after_byte (after_byte u d) e) ys) (next₃ 0x80 0xbf c i)
    ∙ ap (λ (u : Utf8). ends_whole (after_byte u e) ys) (next₂ 0x80 0xbf d j)
    ∙ ap (λ (u : Utf8). ends_whole u ys) (last 0x80 0xbf e k)
passes (four_f4 {c} {d} {e} h i j) ys =
    ap (λ (u : Utf8). ends_whole (after_byte (after_byte u d) e) ys) (next₃ 0x80 0x8f c h)
    ∙ ap (λ (u : Utf8). ends_whole (after_byte u e) ys) (next₂ 0x80 0xbf d i)
    ∙ ap (λ (u : Utf8). ends_whole u ys) (last 0x80 0xbf e j)

accepted : {s : List ℕ} → WellFormedUtf8 s → utf8_of s ≡ true
unfolding ends_whole
accepted end = refl
accepted (char {xs} {ys} c w) = passes c ys ∙ accepted w

-- what is accepted from a state on is what the grammar lets follow there
abbrev Tails : ℕ → List ℕ → Type 0
Tails zero s = WellFormedUtf8 s
Tails (suc n) s = (c : ℕ) × (ys : List ℕ) × (s ≡ c ∷ ys) × Tail c × Tails n ys

abbrev After : Utf8 → List ℕ → Type 0
After Start s = WellFormedUtf8 s
After (More n low high) s = (c : ℕ) × (ys : List ℕ) × (s ≡ c ∷ ys) × Within c low high × Tails (n - 1) ys
After Bad s = ⊥

never : (s : List ℕ) → ends_whole Bad s ≡ true → ⊥
unfolding ends_whole
never [] h = false≢true h
never (b ∷ s) h = never s h

more : (n low high b : ℕ) (s : List ℕ) → ((u : Utf8) → ends_whole u s ≡ true → After u s)
    → (t₁ t₂ t₃ : Bool) → ltb b low ≡ t₁ → ltb high b ≡ t₂ → leb n 1 ≡ t₃
    → ends_whole (cond t₁ Bad (cond t₂ Bad (cond t₃ Start (More (n - 1) 0x80 0xbf)))) s ≡ true → After (More n low high) (b ∷ s)
more n low high b s ih true t₂ t₃ e f g h = absurd (never s h)
more n low high b s ih false true t₃ e f g h = absurd (never s h)
more n low high b s ih false false true e f g h =
    let z : n - 1 ≡ 0 = omega (arith, leb-true n 1 g) in
    (b, s, refl, (ltb-false b low e, ltb-false high b f), rw z (ih Start h))
more n low high b s ih false false false e f g h =
    let z : n - 1 ≡ suc (n - 1 - 1) = omega (arith, leb-false n 1 g) in
    (b, s, refl, (ltb-false b low e, ltb-false high b f), rw z (ih (More (n - 1) 0x80 0xbf) h))

module _ (b : ℕ) (s : List ℕ) where
  with_one : {low high : ℕ} → ((c : ℕ) → Within c low high → Character (b ∷ c ∷ [])) → After (More 1 low high) s → WellFormedUtf8 (b ∷ s)
  with_one k r = rw r.2 (char (k r.0 r.3) r.4)

  with_two : {low high : ℕ} → ((c d : ℕ) → Within c low high → Tail d → Character (b ∷ c ∷ d ∷ [])) → After (More 2 low high) s → WellFormedUtf8 (b ∷ s)
  with_two k r =
      let t = r.4 in
      rw (r.2, t.2) (char (k r.0 t.0 r.3 t.3) t.4)

  with_three : {low high : ℕ} → ((c d e : ℕ) → Within c low high → Tail d → Tail e → Character (b ∷ c ∷ d ∷ e ∷ [])) → After (More 3 low high) s → WellFormedUtf8 (b ∷ s)
  with_three k r =
      let t = r.4 in
      let u = t.4 in
      rw (r.2, t.2, u.2) (char (k r.0 t.0 u.0 r.3 t.3 u.3) u.4)

by_first : (b : ℕ) (s : List ℕ) (t₁ t₂ t₃ t₄ t₅ t₆ t₇ t₈ t₉ : Bool)
    → ltb b 0x80 ≡ t₁ → ltb b 0xc2 ≡ t₂ → ltb b 0xe0 ≡ t₃ → eqb b 0xe0 ≡ t₄ → eqb b 0xed ≡ t₅ → ltb b 0xf0 ≡ t₆ → eqb b 0xf0 ≡ t₇ → ltb b 0xf4 ≡ t₈ → eqb b 0xf4 ≡ t₉
    → After (cond t₁ Start (cond t₂ Bad (cond t₃ (More 1 0x80 0xbf) (cond t₄ (More 2 0xa0 0xbf) (cond t₅ (More 2 0x80 0x9f) (cond t₆ (More 2 0x80 0xbf)
    (cond t₇ (More 3 0x90 0xbf) (cond t₈ (More 3 0x80 0xbf) (cond t₉ (More 3 0x80 0x8f) Bad))))))))) s
    → WellFormedUtf8 (b ∷ s)
by_first b s true t₂ t₃ t₄ t₅ t₆ t₇ t₈ t₉ a c d e f g h i j r = let w : b ≤ 0x7f = omega (arith, ltb-true b 0x80 a) in char (one w) r
by_first b s false true t₃ t₄ t₅ t₆ t₇ t₈ t₉ a c d e f g h i j r = absurd r
by_first b s false false true t₄ t₅ t₆ t₇ t₈ t₉ a c d e f g h i j r =
    let w : Within b 0xc2 0xdf = omega (arith, ltb-false b 0xc2 c, ltb-true b 0xe0 d) in
    with_one b s (λ x p. two w p) r
by_first b s false false false true t₅ t₆ t₇ t₈ t₉ a c d e f g h i j r =
    rw (eqb-true b 0xe0 e) (with_two 0xe0 s (λ x y p q. three_e0 p q) r)
by_first b s false false false false true t₆ t₇ t₈ t₉ a c d e f g h i j r =
    rw (eqb-true b 0xed f) (with_two 0xed s (λ x y p q. three_ed p q) r)
by_first b s false false false false false true t₇ t₈ t₉ a c d e f g h i j r = split (dec_lt b 0xed)
  where
    split : Dec (b < 0xed) → WellFormedUtf8 (b ∷ s)
    split (yes l) =
        let w : Within b 0xe1 0xec = omega (arith, ltb-false b 0xe0 d, eqb-false b 0xe0 e) in
        with_two b s (λ x y p q. three_e1 w p q) r
    split (no l) =
        let w : Within b 0xee 0xef = omega (arith, ltb-true b 0xf0 g, eqb-false b 0xed f) in
        with_two b s (λ x y p q. three_ee w p q) r
by_first b s false false false false false false true t₈ t₉ a c d e f g h i j r =
    rw (eqb-true b 0xf0 h) (with_three 0xf0 s (λ x y z p q o. four_f0 p q o) r)
by_first b s false false false false false false false true t₉ a c d e f g h i j r =
    let w : Within b 0xf1 0xf3 = omega (arith, ltb-false b 0xf0 g, eqb-false b 0xf0 h, ltb-true b 0xf4 i) in
    with_three b s (λ x y z p q o. four_f1 w p q o) r
by_first b s false false false false false false false false true a c d e f g h i j r =
    rw (eqb-true b 0xf4 j) (with_three 0xf4 s (λ x y z p q o. four_f4 p q o) r)
by_first b s false false false false false false false false false a c d e f g h i j r = absurd r

follows : (s : List ℕ) (u : Utf8) → ends_whole u s ≡ true → After u s
unfolding ends_whole
follows [] Start h = end
follows [] (More n low high) h = absurd (false≢true h)
follows [] Bad h = absurd (false≢true h)
follows (b ∷ s) Start h =
    by_first b s (ltb b 0x80) (ltb b 0xc2) (ltb b 0xe0) (eqb b 0xe0) (eqb b 0xed) (ltb b 0xf0) (eqb b 0xf0) (ltb b 0xf4) (eqb b 0xf4)
    refl refl refl refl refl refl refl refl refl (follows s (first_of b) h)
follows (b ∷ s) (More n low high) h = more n low high b s (follows s) (ltb b low) (ltb high b) (leb n 1) refl refl refl h
follows (b ∷ s) Bad h = never s h

pub grammar : (s : List ℕ) → (utf8_of s ≡ true) ↔ WellFormedUtf8 s
grammar s = (follows s Start, accepted)
