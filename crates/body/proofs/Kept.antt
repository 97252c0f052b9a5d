-- Fill, unknown types and unexpected lengths do not decide acceptance: field by field, what the clauses count, measure and compare in each section stays the same.
use Rattle.std.proofs.Common.{Result, Err}
use Prim.Native.Nat.{ℕ, suc, ◌+◌, ◌-◌, ◌≤◌, min}
use mathlib.Core.Path.{◌≡◌, refl, sym, ap, ap₂, ◌∙◌}
use mathlib.Core.Logic.{◌↔◌}
use mathlib.Core.Bool.{Bool, true, false, cond, not, ◌&&◌, ◌||◌, false≢true}
use mathlib.Core.List.{List, [], ◌∷◌, ◌++◌, map}
use native.Mathlib.Nat.{zero-add}
use native.Mathlib.Omega.{arith}
use lib.Dec.{eqb, leb}
use lib.ListN.{length, take, length-take}
use borrow.Author.Tests.{eqb-true, eq-eqb}
use Rattle.words.specs.Each.{Each, all_in}
use Rattle.words.specs.Members.{among}
use Rattle.words.specs.Numbers.{Bytes, more}
use Rattle.words.proofs.ByteLaws.{bytes_append}
use Rattle.words.proofs.NumberLaws.{bytes_sized}
use Rattle.fields.specs.Stored.{Stored}
use Rattle.fields.specs.Step.{end_with_data}
use Rattle.body.specs.Division.{Whole, joined, Divides}
use Rattle.body.specs.Sections.{is_end, push, runs, count, first_data, covered}
use Rattle.body.specs.WellFormed.{once_in_header, uuid_of, WellFormed}
use Rattle.body.specs.Decision.{walkable, ends_empty, version_first, one, none, good_header, good_record, good_runs, formed, distinct, is_well_formed, header_in, records_in, covered_of, with_counts, not_well_formed, judged_of}
use Rattle.body.specs.declared.Counts.{Counts}
use Rattle.body.specs.declared.NotWellFormed.{NotWellFormed}
use Rattle.body.proofs.Division.{division, exact}
use Rattle.body.proofs.Decided.{well_formed}

-- the types that a clause counts, and those whose length it asks for: r, in a record
abbrev pub counted : Bool → List ℕ
counted false = once_in_header
counted true = 0x01 ∷ 0x03 ∷ 0x06 ∷ []

abbrev pub measured : Bool → List ℕ
measured false = []
measured true = 0x01 ∷ 0x03 ∷ 0x06 ∷ []

-- those whose data it compares
abbrev pub compared : Bool → List ℕ
compared false = []
compared true = 0x01 ∷ []

-- gs are the fields fs but for what no clause looks at: r, in a record
pub data Kept : Bool → List Stored → List Stored → Type 0 where
  nothing : {r : Bool} → Kept r [] []
  -- END may have any fill
  end : {r : Bool} {f g : Stored} {fs gs : List Stored} → is_end f ≡ true → f.kind ≡ g.kind → length f.content ≡ length g.content
      → Kept true fs gs → Kept r (f ∷ fs) (g ∷ gs)
  -- a field may have any data and any fill, but in a record UUID, Title and Password keep their lengths, and UUID its data
  field : {r : Bool} {f g : Stored} {fs gs : List Stored} → is_end f ≡ false → f.kind ≡ g.kind
      → (among f.kind (measured r) ≡ true → length f.content ≡ length g.content) → (among f.kind (compared r) ≡ true → f.content ≡ g.content)
      → Kept r fs gs → Kept r (f ∷ fs) (g ∷ gs)
  -- there may be one field more of a type that no clause counts; in a record, before its END
  other : {r : Bool} {g : Stored} {fs gs : List Stored} → is_end g ≡ false → among g.kind (counted r) ≡ false → (r ≡ true → 1 ≤ count 0xff fs)
      → Kept r fs gs → Kept r fs (g ∷ gs)

-- the fields of type k are of a length that fits
abbrev sizes : ℕ → (ℕ → Bool) → List Stored → Bool
sizes k t fs = all_in (λ f. cond (eqb f.kind k) (t (length f.content)) true) fs

-- whose data are compared, its length is asked for
asked : (r : Bool) (k : ℕ) → among k (compared r) ≡ true → among k (measured r) ≡ true
asked true k m = by (eqb k 0x01) m
  where
    by : (b : Bool) → (b || false) ≡ true → (b || among k (0x03 ∷ 0x06 ∷ [])) ≡ true
    by true m = refl
    by false m = absurd (false≢true m)
asked false k m = absurd (false≢true m)

-- two sections that no clause tells apart
record Like (r : Bool) (u v : List Stored) : Type 0 where
  numbers : (k : ℕ) → among k (counted r) ≡ true → count k u ≡ count k v
  lengths : (k : ℕ) (t : ℕ → Bool) → among k (measured r) ≡ true → sizes k t u ≡ sizes k t v
  uuid : r ≡ true → uuid_of u ≡ uuid_of v

-- the UUID of a section with one field more
uuid_field : (r : Bool) (u v : List Stored) (f g : Stored) → f.kind ≡ g.kind → (among f.kind (compared r) ≡ true → f.content ≡ g.content)
    → (r ≡ true → uuid_of u ≡ uuid_of v) → r ≡ true → uuid_of (f ∷ u) ≡ uuid_of (g ∷ v)
unfolding first_data
uuid_field false u v f g e d h q = absurd (false≢true q)
uuid_field true u v f g e d h q = by (eqb f.kind 0x01) refl
  where
    by : (b : Bool) → eqb f.kind 0x01 ≡ b → uuid_of (f ∷ u) ≡ uuid_of (g ∷ v)
    by true k = rw (← e, k) (d (rw k))
    by false k = rw (← e, k) (h refl)

uuid_other : (r : Bool) (v : List Stored) (g : Stored) → among g.kind (counted r) ≡ false → r ≡ true → uuid_of (g ∷ v) ≡ uuid_of v
unfolding first_data
uuid_other false v g o q = absurd (false≢true q)
uuid_other true v g o q = by (eqb g.kind 0x01) o
  where
    by : (b : Bool) → (b || among g.kind (0x03 ∷ 0x06 ∷ [])) ≡ false → cond b g.content (uuid_of v) ≡ uuid_of v
    by true o = absurd (false≢true (sym o))
    by false o = refl

like_field : {r : Bool} {u v : List Stored} (f g : Stored) → f.kind ≡ g.kind → (among f.kind (measured r) ≡ true → length f.content ≡ length g.content)
    → (among f.kind (compared r) ≡ true → f.content ≡ g.content) → Like r u v → Like r (f ∷ u) (g ∷ v)
like_field {r = r} {u = u} {v = v} f g e l d h =
    record {
      numbers = λ k m. ap₂ (λ (i n : ℕ). cond (eqb i k) 1 0 + n) e (h.numbers k m);
      lengths = λ k t m. ap₂ ◌&&◌ (by k t m (eqb f.kind k) refl ∙ ap (λ (i : ℕ). cond (eqb i k) (t (length g.content)) true) e) (h.lengths k t m);
      uuid = uuid_field r u v f g e d h.uuid;
    }
  where
    by : (k : ℕ) (t : ℕ → Bool) → among k (measured r) ≡ true → (b : Bool) → eqb f.kind k ≡ b
        → cond (eqb f.kind k) (t (length f.content)) true ≡ cond (eqb f.kind k) (t (length g.content)) true
    by k t m true q = rw (l (ap (λ (i : ℕ). among i (measured r)) (eqb-true f.kind k q) ∙ m))
    by k t m false q = rw q

-- whose length is asked for is counted
within : (r : Bool) (k : ℕ) → among k (measured r) ≡ true → among k (counted r) ≡ true
within true k m = m
within false k m = absurd (false≢true m)

like_other : {r : Bool} {u v : List Stored} (g : Stored) → among g.kind (counted r) ≡ false → Like r u v → Like r u (g ∷ v)
like_other {r = r} {v = v} g o h =
    record {
      numbers = λ k m. rw (is_not k m (eqb g.kind k) refl) (h.numbers k m ∙ sym (zero-add (count k v)));
      lengths = λ k t m. rw (is_not k (within r k m) (eqb g.kind k) refl) (h.lengths k t m);
      uuid = λ q. h.uuid q ∙ sym (uuid_other r v g o q);
    }
  where
    is_not : (k : ℕ) → among k (counted r) ≡ true → (b : Bool) → eqb g.kind k ≡ b → eqb g.kind k ≡ false
    is_not k m true q = absurd (false≢true (sym o ∙ ap (λ (i : ℕ). among i (counted r)) (eqb-true g.kind k q) ∙ m))
    is_not k m false q = q

like_good : (r : Bool) (u v : List Stored) → Like r u v → cond r (good_record u) (good_header u) ≡ cond r (good_record v) (good_header v)
unfolding good_record good_header
like_good true u v h = rw (one_like 0x01 (λ n. eqb n 16) refl, one_like 0x03 (λ n. leb 1 n) refl, one_like 0x06 (λ n. leb 1 n) refl)
  where
    one_like : (k : ℕ) (t : ℕ → Bool) → among k (counted true) ≡ true → one k t u ≡ one k t v
    one_like k t m = ap₂ (λ (n : ℕ) (b : Bool). eqb n 1 && b) (h.numbers k m) (h.lengths k t m)
like_good false u v h = go once_in_header h.numbers
  where
    or : (a b : Bool) → b ≡ true → (a || b) ≡ true
    or true b e = refl
    or false b e = e

    go : (ts : List ℕ) → ((k : ℕ) → among k ts ≡ true → count k u ≡ count k v) → all_in (λ k. leb (count k u) 1) ts ≡ all_in (λ k. leb (count k v) 1) ts
    go [] e = refl
    go (t ∷ ts) e = ap₂ (λ (n : ℕ) (b : Bool). leb n 1 && b) (e t (rw (eq-eqb t t refl))) (go ts (λ k m. e k (or (eqb k t) (among k ts) m)))

-- runs that no clause tells apart; of the last it asks only whether it is empty
data Likes : Bool → List (List Stored) → List (List Stored) → Type 0 where
  last : {r : Bool} {u v : List Stored} → (r && none u) ≡ (r && none v) → Likes r (u ∷ []) (v ∷ [])
  next : {r : Bool} {u v : List Stored} {us vs : List (List Stored)} → Like r u v → Likes true us vs → Likes r (u ∷ us) (v ∷ vs)

likes_field : {r : Bool} {us vs : List (List Stored)} (f g : Stored) → f.kind ≡ g.kind
    → (among f.kind (measured r) ≡ true → length f.content ≡ length g.content) → (among f.kind (compared r) ≡ true → f.content ≡ g.content)
    → Likes r us vs → Likes r (push f us) (push g vs)
likes_field f g e l d (last n) = last refl
likes_field f g e l d (next h n) = next (like_field f g e l d h) n

likes_other : {r : Bool} {us vs : List (List Stored)} (g : Stored) → among g.kind (counted r) ≡ false → (r ≡ true → 2 ≤ length us) → Likes r us vs → Likes r us (push g vs)
likes_other {r = true} g o c (last n) = absurd (let z = c refl in omega arith)
likes_other {r = false} g o c (last n) = last refl
likes_other {r = true} g o c (next h n) = next (like_other g o h) n
likes_other {r = false} g o c (next h n) = next (like_other g o h) n

likes_good : {r : Bool} {us vs : List (List Stored)} → Likes r us vs → good_runs r us ≡ good_runs r vs
unfolding good_runs
likes_good (last n) = n
likes_good (next h l) = on _ _ _ h l (likes_good l)
  where
    on : (r : Bool) (u v : List Stored) {us vs : List (List Stored)} → Like r u v → Likes true us vs → good_runs true us ≡ good_runs true vs
        → good_runs r (u ∷ us) ≡ good_runs r (v ∷ vs)
    on r u v h (last n) e = ap₂ ◌&&◌ (like_good r u v h) e
    on r u v h (next g n) e = ap₂ ◌&&◌ (like_good r u v h) e

-- the UUIDs of all runs but the last
inner : (u : List Stored) (us : List (List Stored)) → 1 ≤ length us → take (length (u ∷ us) - 1) (u ∷ us) ≡ u ∷ take (length us - 1) us
inner u us h = let e : length (u ∷ us) - 1 ≡ suc (length us - 1) = omega arith in ap (λ (n : ℕ). take n (u ∷ us)) e

likes_uuids : {us vs : List (List Stored)} → Likes true us vs → map uuid_of (take (length us - 1) us) ≡ map uuid_of (take (length vs - 1) vs)
likes_uuids (last n) = refl
likes_uuids (next h l) = on _ _ h l (likes_uuids l)
  where
    on : (u v : List Stored) {us vs : List (List Stored)} → Like true u v → Likes true us vs → map uuid_of (take (length us - 1) us) ≡ map uuid_of (take (length vs - 1) vs)
        → map uuid_of (take (length (u ∷ us) - 1) (u ∷ us)) ≡ map uuid_of (take (length (v ∷ vs) - 1) (v ∷ vs))
    on u v {us} {vs} h (last n) e = ap (map uuid_of) (inner u us (omega arith)) ∙ ap₂ ◌∷◌ (h.uuid refl) e ∙ sym (ap (map uuid_of) (inner v vs (omega arith)))
    on u v {us} {vs} h (next g n) e = ap (map uuid_of) (inner u us (omega arith)) ∙ ap₂ ◌∷◌ (h.uuid refl) e ∙ sym (ap (map uuid_of) (inner v vs (omega arith)))

records_uuids : {us vs : List (List Stored)} → Likes false us vs → map uuid_of (records_in us) ≡ map uuid_of (records_in vs)
records_uuids (last n) = refl
records_uuids (next h l) = likes_uuids l

-- a run more than ENDs
many_runs : (fs : List Stored) → length (runs fs) ≡ suc (count 0xff fs)
unfolding runs
many_runs [] = refl
many_runs (f ∷ fs) = by (is_end f) (runs fs) (many_runs fs)
  where
    by : (t : Bool) (us : List (List Stored)) → length us ≡ suc (count 0xff fs) → length (cond t ([] ∷ us) (push f us)) ≡ suc (cond t 1 0 + count 0xff fs)
    by true us e = omega (arith, e)
    by false [] e = absurd (omega arith)
    by false (u ∷ us) e = omega (arith, e)

same_end : (f g : Stored) (b : Bool) → f.kind ≡ g.kind → is_end f ≡ b → is_end g ≡ b
same_end f g b k e = ap (λ (i : ℕ). eqb i 0xff) (sym k) ∙ e

kept_runs : {r : Bool} {fs gs : List Stored} → Kept r fs gs → Likes r (runs fs) (runs gs)
unfolding runs
kept_runs nothing = last refl
kept_runs (end {f = f} {g = g} e k l h) = rw (e, same_end f g true k e) (next (record { numbers = λ k m. refl; lengths = λ k t m. refl; uuid = λ q. refl }) (kept_runs h))
kept_runs (field {f = f} {g = g} e k l d h) = rw (e, same_end f g false k e) (likes_field f g k l d (kept_runs h))
kept_runs (other {g = g} {fs = fs} e o c h) = rw e (likes_other g o (λ t. let z = c t in omega (arith, many_runs fs)) (kept_runs h))

kept_ends : {r : Bool} {fs gs : List Stored} → Kept r fs gs → ends_empty fs ≡ ends_empty gs
kept_ends nothing = refl
kept_ends (end e k l h) = ap₂ ◌&&◌ (ap₂ (λ (i n : ℕ). not (end_with_data i n)) k l) (kept_ends h)
kept_ends (field {f = f} {g = g} e k l d h) = rw (e, same_end f g false k e) (kept_ends h)
kept_ends (other e o c h) = rw e (kept_ends h)

-- the clauses on the fields
abbrev good : List Stored → Bool
good fs = (ends_empty fs && (version_first fs && good_runs false (runs fs))) && distinct (map uuid_of (records_in (runs fs)))

kept_good : (v w : Stored) (fs gs : List Stored) → v.kind ≡ w.kind → v.content ≡ w.content → Kept false (v ∷ fs) (w ∷ gs) → good (v ∷ fs) ≡ good (w ∷ gs)
kept_good v w fs gs k d h =
    let e : version_first (v ∷ fs) ≡ version_first (w ∷ gs) = ap₂ (λ (i : ℕ) (c : List ℕ). version_first (record { kind = i; content = c; fill = [] } ∷ [])) k d in
    let p : ends_empty (v ∷ fs) && (version_first (v ∷ fs) && good_runs false (runs (v ∷ fs))) ≡ ends_empty (w ∷ gs) && (version_first (w ∷ gs) && good_runs false (runs (w ∷ gs))) =
    rw (kept_ends h, e, likes_good (kept_runs h)) in
    ap₂ ◌&&◌ p (ap distinct (records_uuids (kept_runs h)))

good_of : (s : List ℕ) (fs : List Stored) → Divides s fs → is_well_formed s ≡ good fs
unfolding is_well_formed formed
good_of s fs d = rw (exact s fs d, division s fs d)

joined_fields : (fs : List Stored) → Each Whole fs → Bytes (joined fs)
joined_fields [] w = Bytes.none
joined_fields (f ∷ fs) w =
    bytes_append (bytes_append (bytes_sized 4 (length f.content)).bytes (more w.0.kind (bytes_append w.0.content w.0.fill))) (joined_fields fs w.1)

whole_good : (fs : List Stored) → Each Whole fs → (good fs ≡ true) ↔ WellFormed (joined fs)
whole_good fs w =
    let e = good_of (joined fs) fs (record { whole = w; parts = refl }) in
    let d = well_formed (joined fs) (joined_fields fs w) in
    (λ h. d.0 (e ∙ h), λ h. sym e ∙ d.1 h)

-- two bodies whose fields differ only where no clause looks, the first of them (Version) only in its fill, are both well formed or neither
pub kept : (v w : Stored) (fs gs : List Stored) → Each Whole (v ∷ fs) → Each Whole (w ∷ gs) → v.kind ≡ w.kind → v.content ≡ w.content → Kept false (v ∷ fs) (w ∷ gs)
    → WellFormed (joined (v ∷ fs)) ↔ WellFormed (joined (w ∷ gs))
kept v w fs gs x y k d h =
    let e = kept_good v w fs gs k d h in
    let p = whole_good (v ∷ fs) x in
    let q = whole_good (w ∷ gs) y in
    (λ a. q.0 (sym e ∙ p.1 a), λ a. p.0 (e ∙ q.1 a))

-- whether what comes after the fields is in a record, as it is once an END is passed; r: whether they are
abbrev pub in_record_after : Bool → List Stored → Bool
in_record_after r [] = r
in_record_after r (f ∷ a) = in_record_after (cond (is_end f) true r) a

step : {r : Bool} {fs gs : List Stored} (f g : Stored) → f.kind ≡ g.kind → f.content ≡ g.content → Kept (cond (is_end f) true r) fs gs
    → Kept r (f ∷ fs) (g ∷ gs)
step {r = r} {fs = fs} {gs = gs} f g k d h = by (is_end f) refl h
  where
    by : (b : Bool) → is_end f ≡ b → Kept (cond b true r) fs gs → Kept r (f ∷ fs) (g ∷ gs)
    by true e h = end e k (ap length d) h
    by false e h = field e k (λ m. ap length d) (λ m. d) h

same : (r : Bool) (fs : List Stored) → Kept r fs fs
same r [] = nothing
same r (f ∷ fs) = step f f refl refl (same (cond (is_end f) true r) fs)

past : (r : Bool) (a b c : List Stored) → Kept (in_record_after r a) b c → Kept r (a ++ b) (a ++ c)
past r [] b c h = h
past r (f ∷ a) b c h = step f f refl refl (past (cond (is_end f) true r) a b c h)

between : (a b : List Stored) (f : Stored) → Each Whole (a ++ b) → Whole f → Each Whole (a ++ (f ∷ b))
between [] b f w x = (x, w)
between (g ∷ a) b f w x = (w.0, between a b f w.1 x)

-- a body of the fields v (Version), a and b
module _ (v : Stored) (a b : List Stored) (w : Each Whole (v ∷ (a ++ b))) where
  -- unknown types are kept: between a and b may stand one field more, of any length, in the header of a type that may repeat, in a record of another than 01, 03 and 06
  pub other_kept : (f : Stored) → Whole f → is_end f ≡ false → among f.kind (counted (in_record_after false (v ∷ a))) ≡ false → (in_record_after false (v ∷ a) ≡ true → 1 ≤ count 0xff b)
      → WellFormed (joined (v ∷ (a ++ b))) ↔ WellFormed (joined (v ∷ (a ++ (f ∷ b))))
  other_kept f x e o n =
      kept v v (a ++ b) (a ++ (f ∷ b)) w (between (v ∷ a) b f w x) refl refl (past false (v ∷ a) b (f ∷ b) (other e o n (same (in_record_after false (v ∷ a)) b)))

  -- any other known field of an unexpected length is kept too: between a and b any data may stand, but END's, and in a record those of 01, 03 and 06
  pub length_kept : (f g : Stored) → Whole f → Whole g → f.kind ≡ g.kind → is_end f ≡ false → among f.kind (measured (in_record_after false (v ∷ a))) ≡ false
      → WellFormed (joined (v ∷ (a ++ (f ∷ b)))) ↔ WellFormed (joined (v ∷ (a ++ (g ∷ b))))
  length_kept f g x y k e o =
      kept v v (a ++ (f ∷ b)) (a ++ (g ∷ b)) (between (v ∷ a) b f w x) (between (v ∷ a) b g w y) refl refl
      (past false (v ∷ a) (f ∷ b) (g ∷ b) (field e k (λ m. absurd (false≢true (sym o ∙ m))) (λ m. absurd (false≢true (sym o ∙ asked (in_record_after false (v ∷ a)) f.kind m))) (same (in_record_after false (v ∷ a)) b)))

-- a field without its fill
abbrev pub bare : Stored → Stored
bare f = record { kind = f.kind; content = f.content; fill = [] }

abbrev pub strip : List Stored → List Stored
strip [] = []
strip (f ∷ fs) = bare f ∷ strip fs

abbrev strips : List (List Stored) → List (List Stored)
strips [] = []
strips (u ∷ us) = strip u ∷ strips us

kept_bare : (r : Bool) (fs : List Stored) → Kept r (strip fs) fs
kept_bare r [] = nothing
kept_bare r (f ∷ fs) = step (bare f) f refl refl (kept_bare (cond (is_end f) true r) fs)

good_bare : (fs : List Stored) → good (strip fs) ≡ good fs
good_bare [] = refl
good_bare (f ∷ fs) = kept_good (bare f) f (strip fs) fs refl refl (kept_bare false (f ∷ fs))

covered_bare : (fs : List Stored) → covered (walkable (strip fs)) ≡ covered (walkable fs)
unfolding walkable
covered_bare [] = refl
covered_bare (f ∷ fs) = by (end_with_data f.kind (length f.content)) (covered_bare fs)
  where
    by : (t : Bool) → covered (walkable (strip fs)) ≡ covered (walkable fs) → covered (cond t [] (bare f ∷ walkable (strip fs))) ≡ covered (cond t [] (f ∷ walkable fs))
    by true h = refl
    by false h = ap (◌++◌ f.content) h

push_bare : (f : Stored) (us : List (List Stored)) → push (bare f) (strips us) ≡ strips (push f us)
push_bare f [] = refl
push_bare f (u ∷ us) = refl

runs_bare : (fs : List Stored) → runs (strip fs) ≡ strips (runs fs)
unfolding runs
runs_bare [] = refl
runs_bare (f ∷ fs) = by (is_end f) (runs_bare fs)
  where
    by : (t : Bool) → runs (strip fs) ≡ strips (runs fs)
        → cond t ([] ∷ runs (strip fs)) (push (bare f) (runs (strip fs))) ≡ strips (cond t ([] ∷ runs fs) (push f (runs fs)))
    by true h = ap (◌∷◌ []) h
    by false h = ap (push (bare f)) h ∙ push_bare f (runs fs)

long_bare : (fs : List Stored) → length (strip fs) ≡ length fs
long_bare [] = refl
long_bare (f ∷ fs) = ap suc (long_bare fs)

many_bare : (us : List (List Stored)) → length (strips us) ≡ length us
many_bare [] = refl
many_bare (u ∷ us) = ap suc (many_bare us)

headers_bare : (us : List (List Stored)) → length (header_in (strips us)) ≡ length (header_in us)
headers_bare [] = refl
headers_bare (u ∷ us) = long_bare u

records_bare : (us : List (List Stored)) → length (records_in (strips us)) ≡ length (records_in us)
records_bare [] = refl
records_bare (u ∷ us) =
    length-take (length (strips us) - 1) (strips us)
    ∙ ap (λ (n : ℕ). min (n - 1) n) (many_bare us)
    ∙ sym (length-take (length us - 1) us)

-- the judgement on fields that divide the body
abbrev judged_by : List Stored → Result Counts NotWellFormed
judged_by fs = cond (good fs) (with_counts (length (header_in (runs fs))) (length (records_in (runs fs)))) (Err not_well_formed)

judged_bare : (fs : List Stored) → judged_by (strip fs) ≡ judged_by fs
judged_bare fs = rw (good_bare fs, runs_bare fs, headers_bare (runs fs), records_bare (runs fs))

judged_by_lem : (s : List ℕ) (fs : List Stored) → Divides s fs → judged_of s ≡ judged_by fs
unfolding judged_of
judged_by_lem s fs d = rw (good_of s fs d, division s fs d)

abbrev data_of : List Stored → List ℕ
data_of fs = covered (walkable fs)

-- two bodies whose fields differ in their fill only are judged alike, and their HMACs cover the same bytes
pub fill_kept : (s t : List ℕ) (fs gs : List Stored) → Divides s fs → Divides t gs → strip fs ≡ strip gs
    → (judged_of s ≡ judged_of t) × (covered_of s ≡ covered_of t)
fill_kept s t fs gs d e h = (
  judged_by_lem s fs d ∙ sym (judged_bare fs) ∙ ap judged_by h ∙ judged_bare gs ∙ sym (judged_by_lem t gs e),
  ap data_of (division s fs d) ∙ sym (covered_bare fs) ∙ ap data_of h ∙ covered_bare gs ∙ ap data_of (sym (division t gs e)),
)
