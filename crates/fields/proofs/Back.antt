-- The walk at the place of a stored field gives that field back, and so at the place of an append: the field's own bytes say its length, its type and its data.
use Prim.Native.Nat.{ℕ, ◌+◌, ◌-◌, ◌%◌, ◌^◌, ◌≤◌, ◌<◌}
use mathlib.Core.Path.{◌≡◌, refl, sym, ap, ◌∙◌}
use mathlib.Core.Bool.{Bool, false, ◌||◌}
use mathlib.Core.List.{List, [], ◌∷◌, ◌++◌, append_assoc}
use native.Mathlib.Nat.{mod-eq_of_lt}
use native.Mathlib.Omega.{arith}
use lib.Dec.{eqb}
use lib.ListN.{length, take, drop, length-append}
use lib.Seq.{length-take-le, drop_at, drop-drop, get_or-drop, get_or_at, take_at}
use Rattle.std.proofs.Common.{Some, Ok}
use Rattle.words.specs.Numbers.{bytes_low}
use Rattle.words.proofs.NumberLaws.{number_bytes, bytes_sized}
use Rattle.fields.specs.Stored.{Stored, bytes_of, room_of, fill_of}
use Rattle.fields.specs.Step.{len_at, kind_at, data_at, end_with_data}
use Rattle.fields.specs.Walk.{ValueFunction, walk_by}
use Rattle.fields.specs.Append.{append_of, buffer_after}
use Rattle.fields.specs.declared.Cursor.{Cursor}
use Rattle.fields.specs.declared.Field.{Field}
use Rattle.std.proofs.lemmas.Bool.Decides.{nat_tests}
use Rattle.fields.proofs.Outcomes.{took}
use Rattle.fields.proofs.Valued.{valued}

pub bytes_long : (f : Stored) → length (bytes_of f) ≡ 5 + length f.content + length f.fill
bytes_long f = simp (length-append, (bytes_sized 4 (length f.content)).long) (omega arith)

-- what stands where a field is stored after a, before z
module _ (a : List ℕ) (f : Stored) (z : List ℕ) where
  here : drop (length a) (a ++ (bytes_of f ++ z)) ≡ bytes_low 4 (length f.content) ++ (f.kind ∷ (f.content ++ f.fill) ++ z)
  here =
      drop_at a (bytes_of f ++ z) (length a) refl
      ∙ append_assoc (bytes_low 4 (length f.content)) (f.kind ∷ (f.content ++ f.fill)) z

  pub len_back : length f.content < 2 ^ 32 → len_at (a ++ (bytes_of f ++ z)) (length a) ≡ length f.content
  len_back h =
      rw (here, take_at (bytes_low 4 (length f.content)) (f.kind ∷ (f.content ++ f.fill) ++ z) 4 (bytes_sized 4 (length f.content)).long)
      (number_bytes 4 (length f.content) ∙ mod-eq_of_lt h)

  pub kind_back : kind_at (a ++ (bytes_of f ++ z)) (length a) ≡ f.kind
  kind_back =
      sym (get_or-drop (length a) (a ++ (bytes_of f ++ z)) 4 0)
      ∙ rw here (get_or_at (bytes_low 4 (length f.content)) f.kind ((f.content ++ f.fill) ++ z) 0 4 (bytes_sized 4 (length f.content)).long)

  from_data : drop (length a + 5) (a ++ (bytes_of f ++ z)) ≡ f.content ++ (f.fill ++ z)
  from_data =
      sym (drop-drop 5 (length a) (a ++ (bytes_of f ++ z)))
      ∙ rw (here, ← append_assoc (bytes_low 4 (length f.content)) (f.kind ∷ []) ((f.content ++ f.fill) ++ z))
      (drop_at (bytes_low 4 (length f.content) ++ (f.kind ∷ [])) ((f.content ++ f.fill) ++ z) 5 (simp (length-append, (bytes_sized 4 (length f.content)).long)))
      ∙ append_assoc f.content f.fill z

  pub data_back : length f.content < 2 ^ 32 → data_at (a ++ (bytes_of f ++ z)) (length a) ≡ f.content
  data_back h = rw (len_back h, from_data) (take_at f.content (f.fill ++ z) (length f.content) refl)

  pub fill_back : drop (length a + (5 + length f.content)) (a ++ (bytes_of f ++ z)) ≡ f.fill ++ z
  fill_back =
      let e : length a + (5 + length f.content) ≡ length a + 5 + length f.content = omega arith in
      rw (e, ← drop-drop (length f.content) (length a + 5) (a ++ (bytes_of f ++ z)), from_data)
      (drop_at f.content (f.fill ++ z) (length f.content) refl)

-- a stored field as the walk by the values v shows it, at place p, in a record or not
abbrev pub shown : ValueFunction → Bool → ℕ → Stored → Field
shown v r p f = record { kind = f.kind; place = p; len = length f.content; value = v r f.kind f.content }

-- the cursor after it
abbrev pub past : Bool → ℕ → Stored → Cursor
past r p f = record { place = p + room_of (length f.content); in_record = r || eqb f.kind 0xff }

pub walk_stored : (v : ValueFunction) (a : List ℕ) (f : Stored) (z : List ℕ) (r : Bool) → length a % 16 ≡ 0 → length f.content < 2 ^ 32
    → length f.fill ≡ fill_of (length f.content) → end_with_data f.kind (length f.content) ≡ false
    → walk_by v (a ++ (bytes_of f ++ z)) (record { place = length a; in_record = r }) ≡ Ok (Some (shown v r (length a) f, past r (length a) f))
walk_stored v a f z r al h g e =
    let s = a ++ (bytes_of f ++ z) in
    let n : length s ≡ length a + room_of (length f.content) + length z = simp (length-append, (bytes_sized 4 (length f.content)).long) (omega arith) in
    let l = len_back a f z h in
    let k = kind_back a f z in
    let inside : room_of (len_at s (length a)) ≤ length s - length a = omega (arith, ap room_of l) in
    valued v s (record { place = length a; in_record = r }) _
    (took s (record { place = length a; in_record = r }) al (omega arith) (λ x. omega arith) (omega arith) inside (rw (k, l) e))
    ∙ rw (data_back a f z h, l, k)

-- what an accepted append tells
pub record Accepted (b : List ℕ) (p : ℕ) (f : Stored) (q : ℕ) : Type 0 where
  pub aligned : p % 16 ≡ 0
  pub within : p ≤ length b
  pub no_data : end_with_data f.kind (length f.content) ≡ false
  pub filled : length f.fill ≡ fill_of (length f.content)
  pub next : q ≡ p + room_of (length f.content)
  pub inside : q ≤ length b
  pub limit : q ≤ 4194096

pub accepted : (b : List ℕ) (p : ℕ) (f : Stored) (q : ℕ) → append_of b p f ≡ Ok q → Accepted b p f q
unfolding append_of
accepted b p f q h = grind (arith, nat_tests)

-- What append wrote is what the walk hands back: type, length and value, and the next place.
pub walks_back : (v : ValueFunction) (b : List ℕ) (p : ℕ) (f : Stored) (q : ℕ) (r : Bool) → append_of b p f ≡ Ok q
    → walk_by v (buffer_after (Ok q) b p f) (record { place = p; in_record = r })
    ≡ Ok (Some (shown v r p f, record { place = q; in_record = r || eqb f.kind 0xff }))
walks_back v b p f q r h =
    let t = accepted b p f q h in
    let l : length (take p b) ≡ p = length-take-le p b t.within in
    let w = walk_stored v (take p b) f (drop q b) r (ap (λ (n : ℕ). n % 16) l ∙ t.aligned) (omega (arith, t.next, t.limit)) t.filled t.no_data in
    ap (λ (n : ℕ). walk_by v (buffer_after (Ok q) b p f) (record { place = n; in_record = r })) (sym l)
    ∙ w
    ∙ ap (λ (n : ℕ). Ok (Some (shown v r n f, past r n f))) l
    ∙ ap (λ (n : ℕ). Ok (Some (shown v r p f, record { place = n; in_record = r || eqb f.kind 0xff }))) (sym t.next)
