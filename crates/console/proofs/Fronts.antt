-- The front of a window after bytes came to its end, and after its first bytes went.
use Rattle.std.proofs.Common.{◌≡◌, ℕ, ◌+◌, ◌-◌, ◌<◌, ◌≤◌, List, ◌++◌, length, take, drop, sym, refl, ap, ◌∙◌, ap₂, zero-add, arith, length-append, length-drop, take-append-drop, length-take}
use lib.Seq.{take-append-add, take-append-le, take-append_seam, paste}
use borrow.Rule.Slice.PartMut.{put_mid, post_of}
use Rattle.std.proofs.lemmas.List.Edits.{take-paste}
use Rattle.std.proofs.lemmas.List.{drop-take, drop_all}
use Rattle.console.specs.Ends.{Gave}

-- n of the bytes ys that were put after the first `at`
pub filled : (at k n : ℕ) (xs ys : List ℕ) → at ≤ length xs → n ≤ length ys → take (at + n) (put_mid at k xs ys) ≡ take at xs ++ take n ys
filled at k n xs ys h l =
    let len : length (take at xs) ≡ at = length-take at xs ∙ omega arith in
    ap (λ i. take (i + n) (take at xs ++ (ys ++ post_of at k xs))) (sym len)
    ∙ take-append-add (take at xs) (ys ++ post_of at k xs) n
    ∙ ap (λ zs. take at xs ++ zs) (take-append-le n ys (post_of at k xs) l)

pub moved : (used end : ℕ) (xs ys : List ℕ) → used ≤ end → end ≤ length xs → ys ≡ paste xs 0 (drop used xs) (end - used) → take (end - used) ys ≡ drop used (take end xs)
moved used end xs ys h l e =
    let n : length (drop used xs) ≡ length xs - used = length-drop used xs in
    let u : used + (end - used) ≡ end = omega arith in
    ap (take (end - used)) e
    ∙ ap (λ i. take i (paste xs 0 (drop used xs) (end - used))) (sym (zero-add (end - used)))
    ∙ take-paste xs 0 (drop used xs) (end - used) (omega arith) (omega arith)
    ∙ sym (drop-take used (end - used) xs)
    ∙ ap (λ i. drop used (take i xs)) u

-- the first n of some bytes at the front of a buffer, and those after them kept
pub gave_front : (bs front post rest : List ℕ) (n : ℕ) → front ≡ take n bs → rest ≡ drop n bs → n ≤ length bs → (n ≡ 0 → 0 < length (front ++ post) → length bs ≡ 0) → Gave (λ r. r ≡ bs) (λ r. r ≡ rest) (front ++ post) n
gave_front bs front post rest n f r h ends =
    let len : length front ≡ n = ap length f ∙ length-take n bs ∙ omega arith in
    record {
      within = omega (arith, length-append front post);
      before = λ xs e. ap₂ (λ i ys. take i (front ++ post) ++ ys) (sym len) (e ∙ r) ∙ ap₂ (λ x y. x ++ y) (take-append_seam front post ∙ f) refl ∙ take-append-drop n bs;
      some = (rest, refl);
      ended = λ z some. sym (r ∙ drop_all n bs (let k = ends z some in omega arith));
    }
