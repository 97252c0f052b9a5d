-- The V3 edition meets the laws of an edition: by those of the stretcher, of HMAC, of Twofish and of the well-formed body.
use Prim.Native.Nat.{ℕ}
use mathlib.Core.Path.{sym, ◌∙◌}
use mathlib.Core.List.{List}
use native.Mathlib.Omega.{arith}
use Rattle.words.specs.Numbers.{Sized}
use Rattle.sha256.specs.Hmac.{hmac_of}
use Rattle.sha256.proofs.Digest.{sha256_sized}
use Rattle.stretch.specs.Stretch.{start_of, step_of, stretched_of}
use Rattle.stretch.proofs.Counts.{key_sized, check_count}
use Rattle.chain.proofs.TwofishLaws.{twofish_laws}
use Rattle.body.proofs.Decided.{decides, well_formed, covered_are}
use Rattle.file.specs.Edition.{Laws}
use Rattle.safe.specs.V3.{stretched_v3, v3, v3_edition}

pub hmac_sized : (k m : List ℕ) → Sized 32 (hmac_of k m)
unfolding hmac_of
hmac_sized k m = sha256_sized _

pub v3_laws : Laws v3_edition
unfolding v3 stretched_v3
v3_laws =
    record {
      key_sized = λ p s n. key_sized (stretched_of n (start_of p s));
      check_sized = λ p s n. key_sized (step_of (stretched_of n (start_of p s)));
      count_is = λ p s n h l i. check_count n p s l (omega arith);
      hmac_sized = hmac_sized;
      ciphers = twofish_laws;
      describes = λ b h e. let w = (well_formed b h).0 e in (w, sym (covered_are b w));
      decides = λ b d w. (decides b w.0, covered_are b w.0 ∙ w.1);
    }
