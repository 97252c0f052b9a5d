-- One batch: the members are the first UUIDs, no two of them the same, and of those that were passed none is the same as a member before it. By the table's laws, UUID by UUID.
use Prim.Native.Nat.{ℕ, zero, suc, ◌+◌, ◌-◌, ◌*◌, ◌/◌, ◌≤◌, ◌<◌}
use mathlib.Core.Path.{◌≡◌, refl, sym, ap, ◌∙◌, subst}
use mathlib.Core.Bool.{Bool, true, false, true≢false}
use mathlib.Core.Logic.{⊎_elim}
use mathlib.Core.List.{List, [], ◌∷◌}
use native.Mathlib.Nat.{eq-or-lt_of_le}
use native.Mathlib.Omega.{arith}
use lib.ListN.{length, get_or, drop, length-drop}
use types.Run.{OneOf}
use denote.Enum.Declared.{tag_of}
use Rattle.uuids.specs.Uuids.{uuids_from}
use Rattle.uuids.specs.Table.{id_at, place_of, Looks, TakenIn}
use Rattle.uuids.specs.Batches.{NextAt, Best, on_from, Passing}
use Rattle.std.specs.Prelude.{Option, Some, None}
use Rattle.uuids.specs.declared.batch.Went.{Went}
use Rattle.uuids.specs.declared.table.Look.{Look}
use Rattle.uuids.specs.declared.table.Look.TheVariants.{Known, Free, Full}
use Rattle.uuids.specs.contracts.table.Look as looks
use Rattle.uuids.proofs.Members.{Table, table_more, is_known, not_free, not_full}

-- the first of what is left
uncons : (us : List (List ℕ)) (m : ℕ) (a : List ℕ) (l : List (List ℕ)) → drop m us ≡ a ∷ l → (m < length us) × (get_or us m [] ≡ a) × (drop (suc m) us ≡ l)
uncons [] zero a l e = absurd (omega (arith, ap length e))
uncons [] (suc m) a l e = absurd (omega (arith, ap length e))
uncons (u ∷ us) zero a l e = (omega arith, cc, cc)
uncons (u ∷ us) (suc m) a l e = let r = uncons us m a l e in (omega (arith, r.0), r.1, r.2)

all_gone : (us : List (List ℕ)) (m : ℕ) → drop m us ≡ [] → length us ≤ m
all_gone us m e = omega (arith, simp length-drop at (ap length e))

-- The batch that begins at base, with the UUID of this number. It has come to `at` and to number n; it is growing or not; these are its members, and `next` is behind the last of them.
pub record Passes (s : List ℕ) (base number : ℕ) (slots : List ℕ) (at n : ℕ) (growing : Bool) (next members : ℕ) : Type 0 where
  pub i : ℕ
  pub is : n ≡ number + i
  pub table : Table s base slots (on_from s base) members
  pub rest : uuids_from s at ≡ drop i (on_from s base)
  pub behind : uuids_from s next ≡ drop members (on_from s base)
  pub some : 1 ≤ members
  pub few : members ≤ i
  pub enough : i ≤ length (on_from s base)
  pub all : growing ≡ true → (members ≡ i) × (next ≡ at)
  pub blocks : ℕ
  pub on : at ≡ base + 27 + 16 * blocks
  pub none : (k j : ℕ) → k < i → j < k → j < members → get_or (on_from s base) j [] ≡ get_or (on_from s base) k [] → ⊥

module _ (s : List ℕ) (base number limit : ℕ) (slots : List ℕ) (at n : ℕ) (growing : Bool) (next members : ℕ) (x : Passes s base number slots at n growing next members) where
  abbrev us : List (List ℕ)
  us = on_from s base

  abbrev went : Option ℕ → Went
  went b = record { hit = b; next = next; members = members }

  ended : (b : Option ℕ) → Best us members number limit b → Passing s base number limit (went b)
  ended b e = record { best = e; rest = x.behind; some = x.some; enough = omega (arith, x.few, x.enough) }

  pub passes_over : uuids_from s at ≡ [] → Passing s base number limit (went None)
  passes_over e = ended None (record {
    none = λ k j h g l m z. x.none k j (omega (arith, all_gone us x.i (sym x.rest ∙ e))) l m z;
    some = tt;
  })

  pub passes_end : limit ≤ n → Passing s base number limit (went None)
  passes_end b = ended None (record {
    none = λ k j h g l m z. x.none k j (omega (arith, x.is)) l m z;
    some = tt;
  })

  module _ (p : ℕ) (f : NextAt s at p) where
    here : (x.i < length us) × (get_or us x.i [] ≡ id_at s p) × (drop (suc x.i) us ≡ uuids_from s (p + 27))
    here = uncons us x.i (id_at s p) (uuids_from s (p + 27)) (sym x.rest ∙ f.next)

    pub passes_known : Looks s base slots (id_at s p) Known → n < limit → Passing s base number limit (went (Some n))
    passes_known l b =
        let t = is_known s base slots us members x.table (id_at s p) l in
        ended (Some n) (record {
          none = λ k j h g l m z. x.none k j (omega (arith, x.is)) l m z;
          some = (b, x.i, x.is, here.0, (t.0, omega (arith, t.1, x.few), t.2 ∙ sym here.1));
        })

    module _ (l : Look) (y : Looks s base slots (id_at s p) l) (o : OneOf (1 ∷ 2 ∷ []) (tag_of looks.the_type l)) where
      -- none of the members has it
      unknown : (k : ℕ) → k < members → get_or us k [] ≡ id_at s p → ⊥
      unknown = by l y o
        where
          by : (l : Look) → Looks s base slots (id_at s p) l → OneOf (1 ∷ 2 ∷ []) (tag_of looks.the_type l) → (k : ℕ) → k < members → get_or us k [] ≡ id_at s p → ⊥
          by Known y o = absurd (⊎_elim (λ e. omega arith) (λ e. omega arith) o)
          by (Free i) y o = not_free s base slots us members x.table (id_at s p) i y
          by Full y o = not_full s base slots us members x.table (id_at s p) y

      more : (k j : ℕ) → k < suc x.i → j < k → j < members → get_or us j [] ≡ get_or us k [] → ⊥
      more k j h g m z =
          let b : k ≤ x.i = omega arith in
          ⊎_elim (λ q. unknown j m (z ∙ ap (λ (k : ℕ). get_or us k []) q ∙ here.1)) (λ q. x.none k j q g m z) (eq-or-lt_of_le b)

      pub passes_by : (t : List ℕ) (r : Bool) → TakenIn slots growing l ((p - base) / 16 + 1) t r → r ≡ false
          → Passes s base number t (p + 27) (n + 1) r next members
      passes_by t true w e = absurd (true≢false e)
      passes_by t false w e = record {
        i = suc x.i;
        is = omega (arith, x.is);
        table = rw w x.table;
        rest = sym here.2;
        behind = x.behind;
        some = x.some;
        few = omega (arith, x.few);
        enough = omega (arith, here.0);
        all = λ q. absurd (true≢false (sym q));
        blocks = x.blocks + f.blocks + 2;
        on = omega (arith, x.on, f.on);
        none = more;
      }

      pub passes_in : (t : List ℕ) (r : Bool) → TakenIn slots growing l ((p - base) / 16 + 1) t r → r ≡ true
          → Passes s base number t (p + 27) (n + 1) r (p + 27) (members + 1)
      passes_in t false w e = absurd (true≢false (sym e))
      passes_in t true w e =
          let m : members ≡ x.i = (x.all w.2).0 in
          let c : members + 1 ≡ suc x.i = omega arith in
          let v : ℕ = (p - base) / 16 + 1 in
          let q : place_of base v ≡ p = omega (arith, x.on, f.on) in
          let b : base + 16 * v ≤ length s = omega (arith, x.on, f.on, f.within) in
          let g : Looks s base slots (id_at s p) (Free w.0) = subst (Looks s base slots (id_at s p)) w.1 y in
          record {
            i = suc x.i;
            is = omega (arith, x.is);
            table = rw w.3 (table_more s base slots us members x.table (id_at s p) w.0 g (ap (λ (k : ℕ). get_or us k []) m ∙ here.1) v (omega arith) (ap (id_at s) q) b);
            rest = sym here.2;
            behind = sym here.2 ∙ ap (λ (k : ℕ). drop k us) (sym c);
            some = omega arith;
            few = omega (arith, m);
            enough = omega (arith, here.0);
            all = λ q. (omega (arith, m), refl);
            blocks = x.blocks + f.blocks + 2;
            on = omega (arith, x.on, f.on);
            none = λ k j h g l z.
                let b : j ≤ members = omega arith in
                ⊎_elim (λ q. absurd (omega (arith, m))) (λ q. more k j h g q z) (eq-or-lt_of_le b);
          }
