-- What the code keeps of a section says whether the section is good: one field more changes the counts as it changes the marks.
use Prim.Native.Nat.{ℕ, zero, suc, ◌+◌, ◌<◌}
use mathlib.Core.Path.{◌≡◌, refl, sym, ap, ap₂, ◌∙◌}
use mathlib.Core.Bool.{Bool, true, false, cond, not, ◌&&◌, ◌||◌, and-false, and-true, and_assoc, false≢true, beq}
use mathlib.Core.List.{List, [], ◌∷◌, ◌++◌}
use native.Mathlib.Nat.{add-zero, zero-add, add_assoc}
use native.Mathlib.Omega.{arith}
use lib.Dec.{eqb, leb, ltb, lit<, T}
use lib.ListN.{length}
use borrow.Author.Tests.{eqb-true, lt-leb, lt-ltb, ne_eqb}
use Rattle.words.specs.Each.{all_in}
use Rattle.words.specs.Members.{among}
use Rattle.fields.specs.Stored.{Stored}
use Rattle.body.specs.Sections.{count}
use Rattle.body.specs.WellFormed.{once_in_header}
use Rattle.body.specs.Decision.{none, good_header, good_record}
use Rattle.body.specs.Tally.{once, length_fits, is_marked, with_mark, empty_section, noted, passes}
use Rattle.body.specs.declared.tally.Section.{Section}
use Rattle.body.proofs.Marks.{mark_seen, none_seen}

-- no type of the list more than once
abbrev at_most_once : List ℕ → List Stored → Bool
at_most_once ts fs = all_in (λ t. leb (count t fs) 1) ts

-- the lengths that the section asks for
abbrev lengths : Bool → List Stored → Bool
lengths r fs = all_in (λ f. length_fits r f.kind (length f.content)) fs

-- the section has the fields cur so far; b: what came before it is right
pub record Sums (cur : List Stored) (b : Bool) (x : Section) : Type 0 where
  pub used : x.used ≡ not (none cur)
  pub seen : (k : ℕ) → among k (once x.in_record) ≡ true → is_marked x.seen k ≡ ltb 0 (count k cur)
  pub fine : x.fine ≡ b && (lengths x.in_record cur && at_most_once (once x.in_record) cur)

-- a field at the end
count_last : (k : ℕ) (cur : List Stored) (f : Stored) → count k (cur ++ (f ∷ [])) ≡ count k cur + cond (eqb f.kind k) 1 0
count_last k [] f = add-zero (cond (eqb f.kind k) 1 0) ∙ sym (zero-add (cond (eqb f.kind k) 1 0))
count_last k (g ∷ cur) f =
    ap (◌+◌ (cond (eqb g.kind k) 1 0)) (count_last k cur f)
    ∙ sym (add_assoc (cond (eqb g.kind k) 1 0) (count k cur) (cond (eqb f.kind k) 1 0))

all_last : (t : Stored → Bool) (cur : List Stored) (f : Stored) → all_in t (cur ++ (f ∷ [])) ≡ t f && all_in t cur
all_last t [] f = refl
all_last t (g ∷ cur) f = rw (all_last t cur f) (swap (t g) (t f) (all_in t cur))
  where
    swap : (a b c : Bool) → a && (b && c) ≡ b && (a && c)
    swap true b c = refl
    swap false true c = refl
    swap false false c = refl

some_last : (cur : List Stored) (f : Stored) → none (cur ++ (f ∷ [])) ≡ false
some_last [] f = refl
some_last (g ∷ cur) f = refl

alike : (a b : Bool) → T (beq a b) → a ≡ b
alike true true h = refl
alike false false h = refl
alike true false h = absurd h
alike false true h = absurd h

-- one field more, of a type that the list has or not
one_more : (n : ℕ) (a b : Bool) → leb (n + 1) 1 && (a && not (b && ltb 0 n)) ≡ (leb n 1 && a) && not (ltb 0 n)
one_more zero true b = ap not (and-false b)
one_more zero false b = refl
one_more (suc n) a b =
    rw (lt-leb (suc n + 1) 1 (omega arith), lt-ltb 0 (suc n) (omega arith)) (sym (and-false (leb (suc n) 1 && a)))

at_head : (e : Bool) (n k : ℕ) (l a m : Bool) → (e ≡ true → n ≡ k) → l ≡ a && not (m && ltb 0 k)
    → leb (n + cond e 1 0) 1 && l ≡ (leb n 1 && a) && not ((e || m) && ltb 0 k)
at_head true n k l a m h ih = rw (ih, h refl) (one_more k a m)
at_head false n k l a m h ih = rw (ih, add-zero) (sym (and_assoc (leb n 1) a (not (m && ltb 0 k))))

again : (ts : List ℕ) (f : Stored) (cur : List Stored)
    → at_most_once ts (cur ++ (f ∷ [])) ≡ at_most_once ts cur && not (among f.kind ts && ltb 0 (count f.kind cur))
again [] f cur = refl
again (t ∷ ts) f cur =
    ap (λ (n : ℕ). leb n 1 && at_most_once ts (cur ++ (f ∷ []))) (count_last t cur f)
    ∙ at_head (eqb f.kind t) (count t cur) (count f.kind cur) (at_most_once ts (cur ++ (f ∷ []))) (at_most_once ts cur) (among f.kind ts)
    (λ e. ap (λ (k : ℕ). count k cur) (sym (eqb-true f.kind t e))) (again ts f cur)

fine_step : (b f l a m s c : Bool) → (m ≡ true → s ≡ c)
    → (b && (l && a)) && (f && not (m && s)) ≡ b && ((f && l) && (a && not (m && c)))
fine_step false f l a m s c h = refl
fine_step true false l a m s c h = and-false (l && a)
fine_step true true false a m s c h = refl
fine_step true true true false m s c h = refl
fine_step true true true true true s c h = ap not (h refl)
fine_step true true true true false s c h = refl

-- the types that occur at most once have their place among the 20
abbrev Small : List ℕ → Type 0
Small [] = Unit
Small (t ∷ ts) = (t < 20) × Small ts

head_small : (e : Bool) (k t : ℕ) (m : Bool) → (e ≡ true → k ≡ t) → (m ≡ true → k < 20) → e || m ≡ true → t < 20 → k < 20
head_small true k t m h g o l = omega (arith, h refl)
head_small false k t m h g o l = g o

small_in : (k : ℕ) (ts : List ℕ) → Small ts → among k ts ≡ true → k < 20
small_in k [] z o = absurd (false≢true o)
small_in k (t ∷ ts) z o = head_small (eqb k t) k t (among k ts) (eqb-true k t) (small_in k ts z.1) o z.0

pub small : (r : Bool) (k : ℕ) → among k (once r) ≡ true → k < 20
unfolding once
small false k o = small_in k (once false) (lit< tt, (lit< tt, (lit< tt, (lit< tt, (lit< tt, (lit< tt, (lit< tt, (lit< tt, (lit< tt, (lit< tt, (lit< tt, (lit< tt, (lit< tt, (lit< tt, (lit< tt, tt))))))))))))))) o
small true k o = small_in k (once true) (lit< tt, (lit< tt, (lit< tt, tt))) o

-- a mark more, at j: what is marked at k
seen_step : (w j k n : ℕ) (m e : Bool) → (m ≡ true → j < 20) → k < 20 → eqb j k ≡ e → (e ≡ true → m ≡ true) → is_marked w k ≡ ltb 0 n
    → is_marked (cond m (with_mark w j) w) k ≡ ltb 0 (n + cond e 1 0)
seen_step w j k n true e f h q g i = mark_seen w j k (f refl) h ∙ ap₂ ◌||◌ q i ∙ by e
  where
    by : (e : Bool) → (e || ltb 0 n) ≡ ltb 0 (n + cond e 1 0)
    by true = sym (lt-ltb 0 (n + 1) (omega arith))
    by false = ap (ltb 0) (sym (add-zero n))
seen_step w j k n false true f h q g i = absurd (false≢true (g refl))
seen_step w j k n false false f h q g i = rw (add-zero) i

pub sums_note : (cur : List Stored) (b : Bool) (x : Section) (f : Stored) → Sums cur b x
    → Sums (cur ++ (f ∷ [])) b (noted x f.kind (length f.content))
sums_note cur b x f s =
    let r = x.in_record in
    let k = f.kind in
    let n = length f.content in
    record {
      used = ap not (sym (some_last cur f));
      seen = λ j o. seen_step x.seen k j (count j cur) (among k (once r)) (eqb k j) (small r k) (small r j o) refl
          (λ e. ap (λ (i : ℕ). among i (once r)) (eqb-true k j e) ∙ o) (s.seen j o)
          ∙ ap (ltb 0) (sym (count_last j cur f));
      fine = ap (λ (y : Bool). y && (length_fits r k n && not (among k (once r) && is_marked x.seen k))) s.fine
          ∙ fine_step b (length_fits r k n) (lengths r cur) (at_most_once (once r) cur) (among k (once r)) (is_marked x.seen k) (ltb 0 (count k cur)) (s.seen k)
          ∙ ap₂ (λ (y z : Bool). b && (y && z)) (sym (all_last (λ g. length_fits r g.kind (length g.content)) cur f)) (sym (again (once r) f cur));
    }

none_twice : (r : Bool) → at_most_once (once r) [] ≡ true
unfolding once
none_twice true = refl
none_twice false = refl

pub sums_empty : (r b : Bool) → Sums [] b (empty_section r b)
sums_empty r b = record { used = refl; seen = λ k o. none_seen k (small r k o); fine = rw (none_twice r) (sym (and-true b)) }

exactly : (n : ℕ) → eqb n 1 ≡ leb n 1 && ltb 0 n
exactly zero = refl
exactly (suc zero) = refl
exactly (suc (suc n)) = rw (ne_eqb (suc (suc n)) 1 (λ e. omega arith), lt-leb (suc (suc n)) 1 (omega arith))

any_length : (cur : List Stored) → lengths false cur ≡ true
unfolding length_fits
any_length [] = refl
any_length (f ∷ cur) = any_length cur

-- the length of a field of type k is right
abbrev sizes : ℕ → (ℕ → Bool) → List Stored → Bool
sizes k size fs = all_in (λ f. cond (eqb f.kind k) (size (length f.content)) true) fs

-- a number is one of two at most
not_both : (k i j : ℕ) → (i ≡ j → ⊥) → eqb k i ≡ true → eqb k j ≡ true → ⊥
not_both k i j n e g = n (sym (eqb-true k i e) ∙ eqb-true k j g)

swap : (v a b c : Bool) → v && (a && (b && c)) ≡ a && ((v && b) && c)
swap true a b c = refl
swap false true b c = refl
swap false false b c = refl

last : (v a b c : Bool) → v && (a && (b && c)) ≡ a && (b && (v && c))
last true a b c = refl
last false true true c = refl
last false true false c = refl
last false false b c = refl

apart : (i j k u v a b c : Bool) → (i ≡ true → j ≡ true → ⊥) → (i ≡ true → k ≡ true → ⊥) → (j ≡ true → k ≡ true → ⊥)
    → cond i u (cond j v (cond k v true)) && (a && (b && c)) ≡ (cond i u true && a) && ((cond j v true && b) && (cond k v true && c))
apart true true k u v a b c p q r = absurd (p refl refl)
apart true false true u v a b c p q r = absurd (q refl refl)
apart false true true u v a b c p q r = absurd (r refl refl)
apart true false false u v a b c p q r = sym (and_assoc u a (b && c))
apart false true false u v a b c p q r = swap v a b c
apart false false true u v a b c p q r = last v a b c
apart false false false u v a b c p q r = refl

-- the three lengths together are each of them
lengths_apart : (cur : List Stored) → lengths true cur ≡ sizes 0x01 (λ n. eqb n 16) cur && (sizes 0x03 (λ n. leb 1 n) cur && sizes 0x06 (λ n. leb 1 n) cur)
unfolding length_fits
lengths_apart [] = refl
lengths_apart (f ∷ cur) =
    let n = length f.content in
    let k = f.kind in
    ap (◌&&◌ (length_fits true k n)) (lengths_apart cur)
    ∙ apart (eqb k 0x01) (eqb k 0x03) (eqb k 0x06) (eqb n 16) (leb 1 n)
    (sizes 0x01 (λ n. eqb n 16) cur) (sizes 0x03 (λ n. leb 1 n) cur) (sizes 0x06 (λ n. leb 1 n) cur)
    (not_both k 0x01 0x03 (λ e. omega arith)) (not_both k 0x01 0x06 (λ e. omega arith)) (not_both k 0x03 0x06 (λ e. omega arith))

-- a test that passes for both truth values
abbrev every : (Bool → Bool) → Bool
every f = f true && f false

at_each : (f : Bool → Bool) → T (every f) → (b : Bool) → T (f b)
at_each f t true = left (f true) (f false) t
  where
    left : (x y : Bool) → T (x && y) → T x
    left true y t = tt
    left false y t = t
at_each f t false = right (f true) (f false) t
  where
    right : (x y : Bool) → T (x && y) → T y
    right true y t = t
    right false y t = absurd t

-- fine, and each of three seen: each of the three once, each of its length
abbrev three : Bool → Bool → Bool → Bool → Bool → Bool → Bool → Bool → Bool → Bool → Bool
three b l m n i j k x y z =
    beq ((b && ((l && (m && n)) && (i && (j && (k && true))))) && (x && (y && z)))
    (b && (((i && x) && l) && (((j && y) && m) && ((k && z) && n))))

all_three : (b l m n i j k x y z : Bool) → T (three b l m n i j k x y z)
all_three b l m n i j k x y z =
    at_each (λ z. three b l m n i j k x y z)
    (at_each (λ y. every (λ z. three b l m n i j k x y z))
    (at_each (λ x. every (λ y. every (λ z. three b l m n i j k x y z)))
    (at_each (λ k. every (λ x. every (λ y. every (λ z. three b l m n i j k x y z))))
    (at_each (λ j. every (λ k. every (λ x. every (λ y. every (λ z. three b l m n i j k x y z)))))
    (at_each (λ i. every (λ j. every (λ k. every (λ x. every (λ y. every (λ z. three b l m n i j k x y z))))))
    (at_each (λ n. every (λ i. every (λ j. every (λ k. every (λ x. every (λ y. every (λ z. three b l m n i j k x y z)))))))
    (at_each (λ m. every (λ n. every (λ i. every (λ j. every (λ k. every (λ x. every (λ y. every (λ z. three b l m n i j k x y z))))))))
    (at_each (λ l. every (λ m. every (λ n. every (λ i. every (λ j. every (λ k. every (λ x. every (λ y. every (λ z. three b l m n i j k x y z)))))))))
    (at_each (λ b. every (λ l. every (λ m. every (λ n. every (λ i. every (λ j. every (λ k. every (λ x. every (λ y. every (λ z. three b l m n i j k x y z)))))))))) tt b) l) m) n) i) j) k) x) y) z

pub sums_passes : (cur : List Stored) (b : Bool) (x : Section) → Sums cur b x → passes x ≡ b && cond x.in_record (good_record cur) (good_header cur)
unfolding once good_header good_record
sums_passes cur b x s = by x.in_record refl
  where
    by : (r : Bool) → x.in_record ≡ r → passes x ≡ b && cond r (good_record cur) (good_header cur)
    by false e = rw (s.fine, e, any_length cur) (and-true (b && at_most_once once_in_header cur))
    by true e =
        let c : ℕ → ℕ = λ k. count k cur in
        let seen : (k : ℕ) → among k (once true) ≡ true → is_marked x.seen k ≡ ltb 0 (c k) = rw e at s.seen in
        rw (s.fine, e, seen 1 refl, seen 3 refl, seen 6 refl, lengths_apart cur, exactly (c 1), exactly (c 3), exactly (c 6))
        (alike _ _ (all_three b (sizes 0x01 (λ n. eqb n 16) cur) (sizes 0x03 (λ n. leb 1 n) cur) (sizes 0x06 (λ n. leb 1 n) cur)
        (leb (c 1) 1) (leb (c 3) 1) (leb (c 6) 1) (ltb 0 (c 1)) (ltb 0 (c 3)) (ltb 0 (c 6))))

-- in a section without a field, what came before decides
pub sums_fresh : (cur : List Stored) (b : Bool) (x : Section) → Sums cur b x → none cur ≡ true → x.fine ≡ b
sums_fresh [] b x s h = s.fine ∙ rw (none_twice x.in_record) (and-true b)
sums_fresh (f ∷ cur) b x s h = absurd (false≢true h)
