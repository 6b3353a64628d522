-- What a writer holds after two and after three texts, of which the last may have failed.
use Rattle.std.proofs.Common.{◌≡◌, List, ◌++◌, ℕ, OnOk, Result, Ok, Err, Option, sym}
use Rattle.std.specs.Io.KnownBytes.{Appends}
use Rattle.std.proofs.KnownBytes.{Appends-trans}

pub two_written : {X E : Type 0} (a b c : Option (List ℕ)) (xs : List ℕ) {ys vs : List ℕ} (r : Result X E) → ys ≡ vs → Appends a b xs →
    OnOk r (Appends b c ys) → OnOk r (Appends a c (xs ++ vs))
two_written a b c xs {ys} (Ok x) q first second = rw (sym q) (Appends-trans a b c xs ys first second)
two_written a b c xs (Err e) q first second = tt

pub three_written : {X E : Type 0} (a b c d : Option (List ℕ)) {xs ys zs us vs ws : List ℕ} (r : Result X E) → xs ≡ us → ys ≡ vs → zs ≡ ws
    → Appends a b xs → Appends b c ys → OnOk r (Appends c d zs) → OnOk r (Appends a d (us ++ vs ++ ws))
three_written a b c d {xs} {ys} {zs} {us} {vs} r p q s first second third =
    two_written a c d (us ++ vs) r s (rw (sym p, sym q) (Appends-trans a b c xs ys first second)) third
