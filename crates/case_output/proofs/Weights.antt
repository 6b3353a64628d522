-- The weight of an output, byte by byte.
use Rattle.std.proofs.Common.{◌≡◌, ℕ, ◌+◌, ◌*◌, ◌%◌, ◌^◌, ◌<◌, ◌≤◌, List, length, drop, slice_index_or, sym, ap, ◌∙◌, arith}
use Rattle.std.proofs.lemmas.List.{drop_more, drop_all}
use Rattle.case_output.specs.Printed.{weight, weight_from}

-- a part may be taken modulo 2 ^ 32 before it is added
part_first : (t x w : ℕ) → (t + (x + w)) % 4294967296 ≡ ((t + x) % 4294967296 + w) % 4294967296
part_first t x w = omega arith

-- what is left of an output begins with the byte at i, at place i + 1
weight_at : (i : ℕ) (xs : List ℕ) → i < length xs → weight_from (i + 1) (drop i xs) ≡ (i + 1) * slice_index_or xs i 0 + weight_from (i + 1 + 1) (drop (i + 1) xs)
unfolding weight_from
weight_at i xs below = ap (weight_from (i + 1)) (drop_more xs i 0 below)

pub weighs_one_more : (t i : ℕ) (xs : List ℕ) → i < length xs → (t + weight_from (i + 1) (drop i xs)) % 2 ^ 32 ≡ weight xs
    → ((t + (i + 1) * slice_index_or xs i 0) % 4294967296 + weight_from (i + 1 + 1) (drop (i + 1) xs)) % 2 ^ 32 ≡ weight xs
weighs_one_more t i xs below before =
    sym (part_first t ((i + 1) * slice_index_or xs i 0) (weight_from (i + 1 + 1) (drop (i + 1) xs))) ∙ ap (λ w. (t + w) % 4294967296) (sym (weight_at i xs below)) ∙ before

none_left : (i : ℕ) (xs : List ℕ) → length xs ≤ i → weight_from (i + 1) (drop i xs) ≡ 0
unfolding weight_from
none_left i xs over = ap (weight_from (i + 1)) (drop_all i xs over)

-- past the last byte all is weighed
pub weighs_all : (t i : ℕ) (xs : List ℕ) → length xs ≤ i → t < 4294967296 → (t + weight_from (i + 1) (drop i xs)) % 2 ^ 32 ≡ weight xs → t ≡ weight xs
weighs_all t i xs over fits before =
    let small : t ≡ (t + 0) % 4294967296 = omega (arith, fits) in
    small ∙ ap (λ w. (t + w) % 4294967296) (sym (none_left i xs over)) ∙ before
