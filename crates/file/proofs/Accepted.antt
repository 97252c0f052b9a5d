-- Demand 2: a reading is accepted exactly for the files that are safes. What is decrypted and encrypted again is the same, so the file's parts are
-- those of the safe; and the parts of a safe pass every test.
use Prim.Native.Nat.{ℕ, ◌+◌, ◌-◌, ◌*◌, ◌/◌, ◌%◌, ◌≤◌}
use mathlib.Core.Path.{◌≡◌, refl, sym, ap, ap₂, ◌∙◌, subst₃}
use mathlib.Core.Logic.{◌↔◌}
use mathlib.Core.Bool.{Bool, true, false, ◌||◌, not}
use mathlib.Core.List.{List, ◌++◌, map}
use native.Mathlib.Omega.{arith}
use lib.Dec.{ltb, eqb, lit≤}
use lib.ListN.{length, take, drop, take-append-drop}
use lib.Seq.{take_at, drop_at}
use borrow.Author.Tests.{not-false, ltb-false, eqb-true, le-ltb, eq-eqb}
use Rattle.words.specs.Numbers.{Bytes, Sized, number_low, bytes_low}
use Rattle.words.specs.Slices.{zeros}
use Rattle.words.proofs.ByteLaws.{sized_take, sized_drop, sized_append, sized_zeros}
use Rattle.words.proofs.NumberLaws.{bytes_sized}
use Rattle.chain.specs.Modes.{ecb_e, ecb_d, cbc_e, cbc_d, encrypted, decrypted}
use Rattle.chain.proofs.ModeLaws.{ecb_laws, cbc_laws, encrypted_sized, decrypted_sized, decrypted_encrypted, encrypted_decrypted}
use Rattle.chain.proofs.StepLaws.{decryption_done}
use Rattle.file.specs.Layout.{Parts, split, join, listed, tag, marker, first_marker}
use Rattle.file.specs.Edition.{Edition, Stretched, Laws}
use Rattle.file.specs.Description.{IsSafe, wrapped, cbc, parts_of, file_of}
use Rattle.file.specs.Reading.{Answers, Report, accepted, bad_length, keys_decrypted, body_decrypted, key_k, key_l, body_of, checked, reading_of}
use Rattle.file.proofs.Glue.{same_of, same_is}
use Rattle.file.proofs.PartLaws.{sizes, join_split, split_sizes, split_join, join_length, Lengths, lengths, all_lengths, tail_split, bytes_split, iter_back, iter_again, iter_small}
use Rattle.file.proofs.Markers.{marker_found, marker_sized, marker_first, clear_each, each_clear}
use Rattle.file.proofs.Passed.{Early, early, passed_early, Matches, Whole, late_passed, is_accepted}

pub good_length : (n : ℕ) → bad_length n ≡ false → (232 ≤ n) × (n ≤ 4194304) × ((n - 200) % 16 ≡ 0)
unfolding bad_length
good_length n h = go (ltb n 232) (ltb 4194304 n) (eqb ((n - 200) % 16) 0) refl refl refl h
  where
    go : (a b c : Bool) → ltb n 232 ≡ a → ltb 4194304 n ≡ b → eqb ((n - 200) % 16) 0 ≡ c → a || (b || not c) ≡ false
        → (232 ≤ n) × (n ≤ 4194304) × ((n - 200) % 16 ≡ 0)
    go true b c p q r h = absurd (let z : ◌≡◌ {A = ℕ} 0 1 = cc in omega arith)
    go false true c p q r h = absurd (let z : ◌≡◌ {A = ℕ} 0 1 = cc in omega arith)
    go false false false p q r h = absurd (let z : ◌≡◌ {A = ℕ} 0 1 = cc in omega arith)
    go false false true p q r h = (ltb-false n 232 p, ltb-false 4194304 n q, eqb-true ((n - 200) % 16) 0 r)

pub is_length : (n : ℕ) → 232 ≤ n → n ≤ 4194304 → (n - 200) % 16 ≡ 0 → bad_length n ≡ false
unfolding bad_length
is_length n a b c = rw (le-ltb n 232 a, le-ltb 4194304 n b, eq-eqb ((n - 200) % 16) 0 c)

module _ (E : Edition) (X : Laws E) where
  -- what was decrypted
  pub keys_done : (k c : List ℕ) → (keys_decrypted E.format k c).done ≡ decrypted (ecb_d E.format.cipher k) 4 (zeros 16) c
  unfolding keys_decrypted
  keys_done k c = decryption_done (ecb_d E.format.cipher k) 4 (zeros 16) c 0

  pub body_done : (k iv : List ℕ) (n : ℕ) (c : List ℕ) (m : ℕ) → (body_decrypted E.format k iv n c m).done ≡ decrypted (cbc_d E.format.cipher k) n iv c
  unfolding body_decrypted
  body_done k iv n c m = decryption_done (cbc_d E.format.cipher k) n iv c m

  -- the keys: decrypted and encrypted again, and the other way round
  module _ (k : List ℕ) (hk : Sized 32 k) where
    abbrev ecb : List ℕ → List ℕ → List ℕ
    ecb = ecb_e E.format.cipher k

    abbrev unecb : List ℕ → List ℕ → List ℕ
    unecb = ecb_d E.format.cipher k

    pub keys_sized : (c : List ℕ) → Sized 64 c → Sized 64 (keys_decrypted E.format k c).done
    keys_sized c h = rw (keys_done k c) (decrypted_sized ecb unecb (ecb_laws E.format.cipher X.ciphers k hk) 4 (zeros 16) c (sized_zeros 16) h)

    keys_again : (c : List ℕ) → Sized 64 c → encrypted ecb 4 (zeros 16) (keys_decrypted E.format k c).done ≡ c
    keys_again c h = rw (keys_done k c) (encrypted_decrypted ecb unecb (ecb_laws E.format.cipher X.ciphers k hk) 4 (zeros 16) c (sized_zeros 16) h)

    keys_back : (l : List ℕ) → Sized 64 l → (keys_decrypted E.format k (encrypted ecb 4 (zeros 16) l)).done ≡ l
    keys_back l h =
        rw (keys_done k (encrypted ecb 4 (zeros 16) l)) (decrypted_encrypted ecb unecb (ecb_laws E.format.cipher X.ciphers k hk) 4 (zeros 16) l (sized_zeros 16) h)

    -- the same of the body
    module _ (iv : List ℕ) (hi : Sized 16 iv) (m : ℕ) where
      abbrev chained : List ℕ → List ℕ → List ℕ
      chained = cbc_e E.format.cipher k

      abbrev unchained : List ℕ → List ℕ → List ℕ
      unchained = cbc_d E.format.cipher k

      pub body_sized : (n : ℕ) (c : List ℕ) → Sized (16 * n) c → Sized (16 * n) (body_decrypted E.format k iv n c m).done
      body_sized n c h = rw (body_done k iv n c m) (decrypted_sized chained unchained (cbc_laws E.format.cipher X.ciphers k hk) n iv c hi h)

      body_again : (n : ℕ) (c : List ℕ) → Sized (16 * n) c → cbc E.format k iv (body_decrypted E.format k iv n c m).done ≡ c
      unfolding cbc
      body_again n c h =
          let b : length (body_decrypted E.format k iv n c m).done / 16 ≡ n = omega (arith, (body_sized n c h).long) in
          rw (b, body_done k iv n c m) (encrypted_decrypted chained unchained (cbc_laws E.format.cipher X.ciphers k hk) n iv c hi h)

      body_back : (n : ℕ) (l : List ℕ) → length l / 16 ≡ n → Sized (16 * n) l → (body_decrypted E.format k iv n (cbc E.format k iv l) m).done ≡ l
      unfolding cbc
      body_back n l e h =
          rw (e, body_done k iv n (encrypted chained n iv l) m) (decrypted_encrypted chained unchained (cbc_laws E.format.cipher X.ciphers k hk) n iv l hi h)

      pub cbc_sized : (n : ℕ) (l : List ℕ) → length l / 16 ≡ n → Sized (16 * n) l → Sized (16 * n) (cbc E.format k iv l)
      unfolding cbc
      cbc_sized n l e h = rw e (encrypted_sized chained unchained (cbc_laws E.format.cipher X.ciphers k hk) n iv l hi h)

  -- accepted: a safe
  module _ (file pass : List ℕ) (ceiling room : ℕ) (fb : Bytes file) where
    abbrev p : Parts
    p = split file

    abbrev n : ℕ
    n = (length file - 200) / 16

    abbrev s : Stretched
    s = E.format.stretched pass p.salt (number_low p.iter)

    -- the parts are those of the safe
    parts_are : p.tag ≡ tag → p.iter ≡ bytes_low 4 (number_low p.iter) → p.check ≡ s.check
        → p.keys ≡ wrapped E.format s.key (key_k E.format p s.key) (key_l E.format p s.key)
        → p.encrypted ≡ cbc E.format (key_k E.format p s.key) p.iv (body_of E.format p s.key n).done
        → p.marker ≡ marker → p.mac ≡ E.format.hmac (key_l E.format p s.key) (E.covered (body_of E.format p s.key n).done)
        → p ≡ parts_of E.format pass p.salt (number_low p.iter) (key_k E.format p s.key) (key_l E.format p s.key) p.iv (body_of E.format p s.key n).done (E.covered (body_of E.format p s.key n).done)
    unfolding parts_of
    parts_are a b c d e f g = λ i. record { tag = a i; salt = p.salt; iter = b i; check = c i; keys = d i; iv = p.iv; encrypted = e i; marker = f i; mac = g i }

    pub safe : Early E p n file pass ceiling room → Matches p s → Whole E p s n
        → IsSafe E.format pass file p.salt (number_low p.iter) (key_k E.format p s.key) (key_l E.format p s.key) p.iv (body_of E.format p s.key n).done
    unfolding file_of wrapped
    safe e m w =
        let g = good_length (length file) e.t1 in
        let l = lengths p (length file - 200) (split_sizes file (omega arith)) in
        let b = bytes_split file fb in
        let whole : length file - 200 ≡ 16 * n = omega arith in
        let hs = X.key_sized pass p.salt (number_low p.iter) in
        let hiv : Sized 16 p.iv = record { long = l.iv_long; bytes = b.iv_bytes } in
        let hkeys : Sized 64 p.keys = record { long = l.keys_long; bytes = b.keys_bytes } in
        let hc : Sized (16 * n) p.encrypted = record { long = l.encrypted_long ∙ whole; bytes = b.encrypted_bytes } in
        let hk = keys_sized s.key hs p.keys hkeys in
        let h_k : Sized 32 (key_k E.format p s.key) = sized_take 32 64 (keys_decrypted E.format s.key p.keys).done (lit≤ tt) hk in
        let h_l : Sized 32 (key_l E.format p s.key) = sized_drop 32 64 32 (keys_decrypted E.format s.key p.keys).done refl hk in
        let count = (keys_decrypted E.format s.key p.keys).count in
        let hb : Sized (16 * n) (body_of E.format p s.key n).done = body_sized (key_k E.format p s.key) h_k p.iv hiv count n p.encrypted hc in
        let blocks : length (body_of E.format p s.key n).done / 16 ≡ n = omega (arith, hb.long) in
        let ec : cbc E.format (key_k E.format p s.key) p.iv (body_of E.format p s.key n).done ≡ p.encrypted = body_again (key_k E.format p s.key) h_k p.iv hiv count n p.encrypted hc in
        let first : first_marker (n + 3) (drop 152 file) ≡ n = eqb-true (first_marker (n + 3) (drop 152 file)) n (not-false (eqb (first_marker (n + 3) (drop 152 file)) n) e.t7) in
        let mk = marker_found n (n + 3) p.encrypted p.marker p.mac refl hc.long l.marker_long (rw (tail_split file (omega arith)) at first) in
        record {
          passphrase_fits = ltb-false 1024 (length pass) e.t2;
          salt_sized = record { long = l.salt_long; bytes = b.salt_bytes };
          iter_floor = ltb-false (number_low p.iter) E.format.floor e.t5;
          iter_fits = iter_small p.iter b.iter_bytes l.iter_long;
          K_sized = h_k;
          L_sized = h_l;
          iv_sized = hiv;
          body_bytes = hb.bytes;
          body_least = omega (arith, hb.long);
          body_most = omega (arith, hb.long);
          body_whole = omega (arith, hb.long);
          covered = E.covered (body_of E.format p s.key n).done;
          well_formed = X.describes (body_of E.format p s.key n).done hb.bytes (not-false (E.is_well_formed (body_of E.format p s.key n).done) w.fine);
          no_marker = clear_each (length (body_of E.format p s.key n).done / 16) (cbc E.format (key_k E.format p s.key) p.iv (body_of E.format p s.key n).done) (rw (blocks, ec) mk.0);
          is_file = sym (join_split file (omega arith)) ∙ ap join (parts_are
              (same_of p.tag tag e.t4) (sym (iter_again p.iter b.iter_bytes l.iter_long))
              (sym (same_of s.check p.check m.t8))
              (sym (rw (take-append-drop 32 (keys_decrypted E.format s.key p.keys).done) (keys_again s.key hs p.keys hkeys)))
              (sym ec) mk.1 (sym (same_of (E.format.hmac (key_l E.format p s.key) (E.covered (body_of E.format p s.key n).done)) p.mac w.mac)));
        }

  -- a safe: accepted
  module _ (pass file salt : List ℕ) (iter : ℕ) (K L iv body : List ℕ) (z : IsSafe E.format pass file salt iter K L iv body) where
    abbrev q : Parts
    q = parts_of E.format pass salt iter K L iv body z.covered

    abbrev key : Stretched
    key = E.format.stretched pass salt iter

    abbrev k : ℕ
    k = length body / 16

    body_is : Sized (16 * k) body
    body_is = record { long = omega (arith, z.body_whole); bytes = z.body_bytes }

    q_lengths : Lengths q (length body)
    unfolding parts_of wrapped tag
    q_lengths = record {
      tag_long = refl;
      salt_long = z.salt_sized.long;
      iter_long = (bytes_sized 4 iter).long;
      check_long = (X.check_sized pass salt iter).long;
      keys_long = (encrypted_sized (ecb_e E.format.cipher key.key) (ecb_d E.format.cipher key.key) (ecb_laws E.format.cipher X.ciphers key.key (X.key_sized pass salt iter)) 4 (zeros 16) (K ++ L)
          (sized_zeros 16) (sized_append 32 32 K L z.K_sized z.L_sized)).long;
      iv_long = z.iv_sized.long;
      encrypted_long = (cbc_sized K z.K_sized iv z.iv_sized 0 k body refl body_is).long ∙ sym body_is.long;
      marker_long = marker_sized;
      mac_long = (X.hmac_sized L z.covered).long;
    }

    q_sizes : map length (listed q) ≡ sizes (length body)
    q_sizes = all_lengths q (length body) q_lengths

    file_is : file ≡ join q
    unfolding file_of
    file_is = z.is_file

    split_is : split file ≡ q
    split_is = ap split file_is ∙ split_join q (length body) q_sizes

    pub file_long : length file ≡ 200 + length body
    file_long = ap length file_is ∙ join_length q (length body) q_sizes

    iter_is : number_low q.iter ≡ iter
    unfolding parts_of
    iter_is = iter_back iter z.iter_fits

    blocks_are : (length file - 200) / 16 ≡ k
    blocks_are = rw file_long (omega arith)

    pub tail_is : drop 152 file ≡ cbc E.format K iv body ++ (marker ++ E.format.hmac L z.covered)
    unfolding parts_of
    tail_is = tail_split file (omega (arith, file_long)) ∙ ap (λ (p : Parts). p.encrypted ++ (p.marker ++ p.mac)) split_is

    q_early : (ceiling room : ℕ) → iter ≤ ceiling → length body ≤ room → Early E q k file pass ceiling room
    unfolding parts_of
    q_early ceiling room hc hr =
        let len = file_long in
        let m = z.body_whole in
        let cs = cbc_sized K z.K_sized iv z.iv_sized 0 k body refl body_is in
        record {
          t1 = is_length (length file) (omega (arith, z.body_least)) (omega (arith, z.body_most)) (rw len (omega arith));
          t2 = le-ltb 1024 (length pass) z.passphrase_fits;
          t3 = le-ltb room (length file - 200) (omega arith);
          t4 = same_is tag tag refl;
          t5 = rw iter_is (le-ltb iter E.format.floor z.iter_floor);
          t6 = rw iter_is (le-ltb ceiling iter hc);
          t7 = ap not (eq-eqb (first_marker (k + 3) (drop 152 file)) k (rw tail_is (marker_first k (k + 3) (cbc E.format K iv body) (E.format.hmac L z.covered) refl cs.long (each_clear k (cbc E.format K iv body) z.no_marker))));
        }

    reading_is : (ceiling room : ℕ) → iter ≤ ceiling → length body ≤ room → reading_of E file pass ceiling room ≡ checked E q key k
    unfolding parts_of
    reading_is ceiling room hc hr =
        passed_early E file pass ceiling room (rw (split_is, blocks_are) (q_early ceiling room hc hr))
        ∙ ap₂ (λ (p : Parts) (n : ℕ). checked E p (E.format.stretched pass p.salt (number_low p.iter)) n) split_is blocks_are
        ∙ ap (λ (i : ℕ). checked E q (E.format.stretched pass salt i) k) iter_is

    keys_are : (keys_decrypted E.format key.key q.keys).done ≡ K ++ L
    unfolding parts_of wrapped
    keys_are = keys_back key.key (X.key_sized pass salt iter) (K ++ L) (sized_append 32 32 K L z.K_sized z.L_sized)

    K_is : key_k E.format q key.key ≡ K
    K_is = ap (take 32) keys_are ∙ take_at K L 32 z.K_sized.long

    L_is : key_l E.format q key.key ≡ L
    L_is = ap (drop 32) keys_are ∙ drop_at K L 32 z.K_sized.long

    done_is : (body_of E.format q key.key k).done ≡ body
    unfolding parts_of
    done_is =
        ap (λ (x : List ℕ). (body_decrypted E.format x iv k (cbc E.format K iv body) (keys_decrypted E.format key.key q.keys).count).done) K_is
        ∙ body_back K z.K_sized iv z.iv_sized (keys_decrypted E.format key.key q.keys).count k body refl body_is

    q_matches : Matches q key
    unfolding parts_of
    q_matches = record { t8 = same_is key.check key.check refl }

    q_whole : Whole E q key k
    unfolding parts_of
    q_whole = record {
      fine = ap not (ap E.is_well_formed done_is ∙ (X.decides body z.covered z.well_formed).0);
      mac = same_is (E.format.hmac (key_l E.format q key.key) (E.covered (body_of E.format q key.key k).done)) (E.format.hmac L z.covered)
          (ap₂ (λ (l b : List ℕ). E.format.hmac l (E.covered b)) L_is done_is ∙ ap (E.format.hmac L) (X.decides body z.covered z.well_formed).1);
    }

    pub safe_accepted : (ceiling room : ℕ) → iter ≤ ceiling → length body ≤ room
        → reading_of E file pass ceiling room ≡ accepted E (key_k E.format q key.key) (key_l E.format q key.key) key.count (body_of E.format q key.key k).count (body_of E.format q key.key k).done
    safe_accepted ceiling room hc hr = reading_is ceiling room hc hr ∙ is_accepted E q key k q_matches q_whole

    pub safe_read : (ceiling room : ℕ) → iter ≤ ceiling → length body ≤ room
        → Answers (reading_of E file pass ceiling room) K L body
    unfolding accepted
    safe_read ceiling room hc hr =
        let e = safe_accepted ceiling room hc hr in
        record {
          accepts = ap (λ (r : Report). r.number) e;
          gives_k = ap (λ (r : Report). r.key_k) e ∙ K_is;
          gives_l = ap (λ (r : Report). r.key_l) e ∙ L_is;
          gives_body = ap (λ (r : Report). r.body) e ∙ done_is;
        }

  -- DEMAND 2
  module _ (file pass : List ℕ) (ceiling room : ℕ) (fb : Bytes file) (K L body : List ℕ) where
    abbrev pub ASafe : Type 0
    ASafe = (salt : List ℕ) × (iter : ℕ) × (iv : List ℕ) × IsSafe E.format pass file salt iter K L iv body × (iter ≤ ceiling) × (length body ≤ room)

    -- the values are those that stand in the file
    pub record Read : Type 0 where
      pub is_safe : IsSafe E.format pass file (split file).salt (number_low (split file).iter) K L (split file).iv body
      pub under : number_low (split file).iter ≤ ceiling
      pub fits : length body ≤ room

    pub read_safe : Answers (reading_of E file pass ceiling room) K L body → Read
    unfolding accepted
    read_safe a =
        let p = split file in
        let n = (length file - 200) / 16 in
        let s = E.format.stretched pass p.salt (number_low p.iter) in
        let e = early E file pass ceiling room (λ k u v w. omega (arith, a.accepts)) in
        let r = passed_early E file pass ceiling room e in
        let w = late_passed E p s n (sym (ap (λ (r : Report). r.number) r) ∙ a.accepts) in
        let x = r ∙ is_accepted E p s n w.0 w.1 in
        let e_k : key_k E.format p s.key ≡ K = sym (ap (λ (r : Report). r.key_k) x) ∙ a.gives_k in
        let e_l : key_l E.format p s.key ≡ L = sym (ap (λ (r : Report). r.key_l) x) ∙ a.gives_l in
        let e_b : (body_of E.format p s.key n).done ≡ body = sym (ap (λ (r : Report). r.body) x) ∙ a.gives_body in
        let z : IsSafe E.format pass file p.salt (number_low p.iter) K L p.iv body
        = subst₃ (λ (k l b : List ℕ). IsSafe E.format pass file p.salt (number_low p.iter) k l p.iv b) e_k e_l e_b (safe file pass ceiling room fb e w.0 w.1) in
        let f = file_long pass file p.salt (number_low p.iter) K L p.iv body z in
        let g = ltb-false room (length file - 200) e.t3 in
        record { is_safe = z; under = ltb-false ceiling (number_low p.iter) e.t6; fits = omega arith }

    pub demand2 : Answers (reading_of E file pass ceiling room) K L body ↔ ASafe
    demand2 = (
      λ a. let r = read_safe a in ((split file).salt, number_low (split file).iter, (split file).iv, r.is_safe, r.under, r.fits),
      λ t. safe_read pass file t.0 t.1 K L t.2 body t.3 ceiling room t.4 t.5,
    )

  -- a file and its passphrase are a safe of one body only, under one set of values
  pub only_safe : (pass file : List ℕ) (salt salt' : List ℕ) (iter iter' : ℕ) (K K' L L' iv iv' body body' : List ℕ)
      → IsSafe E.format pass file salt iter K L iv body → IsSafe E.format pass file salt' iter' K' L' iv' body'
      → (salt ≡ salt') × (iter ≡ iter') × (K ≡ K') × (L ≡ L') × (iv ≡ iv') × (body ≡ body')
  unfolding parts_of
  only_safe pass file salt salt' iter iter' K K' L L' iv iv' body body' z z' =
      let a = split_is pass file salt iter K L iv body z in
      let a' = split_is pass file salt' iter' K' L' iv' body' z' in
      let e = sym a ∙ a' in
      let ei : iter ≡ iter' = sym (iter_back iter z.iter_fits) ∙ ap (λ (p : Parts). number_low p.iter) e ∙ iter_back iter' z'.iter_fits in
      let l = file_long pass file salt iter K L iv body z in
      let l' = file_long pass file salt' iter' K' L' iv' body' z' in
      let r = safe_read pass file salt iter K L iv body z iter (length body) (omega arith) (omega arith) in
      let r' = safe_read pass file salt' iter' K' L' iv' body' z' iter (length body) (omega arith) (omega arith) in
      (ap (λ (p : Parts). p.salt) e, ei, sym r.gives_k ∙ r'.gives_k, sym r.gives_l ∙ r'.gives_l, ap (λ (p : Parts). p.iv) e, sym r.gives_body ∙ r'.gives_body)
