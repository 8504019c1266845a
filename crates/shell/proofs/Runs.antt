-- A word is a whole run of bytes that are no blanks.
use Rattle.std.proofs.Common.{◌≡◌, ℕ, zero, suc, ◌+◌, ◌<◌, Bool, true, false, not, cond, ◌&&◌, List, [], ◌∷◌, ◌++◌, length, take, drop, refl, subst, sym, ap, ap₂, ◌∙◌, arith}
use Rattle.std.proofs.lemmas.List.{take-append-drop}
use Rattle.std.specs.List.{prefix_len, list_all}
use Rattle.shell.specs.Words.{blank, blanks, begun}
use Rattle.shell.specs.Law.{is_past_word, WordsAreRuns}

one_more : (n : ℕ) → 1 + n ≡ suc n
one_more n = omega arith

module _ (p : ℕ → Bool) where
  -- what passes at the front passes
  passes_by : (x : ℕ) (xs : List ℕ) (t : Bool) → p x ≡ t → list_all p (take (prefix_len p xs) xs) ≡ true → list_all p (take (cond t (1 + prefix_len p xs) 0) (x ∷ xs)) ≡ true
  passes_by x xs true e more =
      ap (λ n. list_all p (take n (x ∷ xs))) (one_more (prefix_len p xs)) ∙ ap₂ (λ a b. a && b) e more
  passes_by x xs false e more = refl

  passes : (xs : List ℕ) → list_all p (take (prefix_len p xs) xs) ≡ true
  passes [] = refl
  passes (x ∷ xs) = passes_by x xs (p x) refl (passes xs)

  -- and what follows begins with one that does not
  abbrev stops : List ℕ → Bool
  stops [] = true
  stops (x ∷ xs) = not (p x)

  stops_by : (x : ℕ) (xs : List ℕ) (t : Bool) → p x ≡ t → stops (drop (prefix_len p xs) xs) ≡ true → stops (drop (cond t (1 + prefix_len p xs) 0) (x ∷ xs)) ≡ true
  stops_by x xs true e more = ap (λ n. stops (drop n (x ∷ xs))) (one_more (prefix_len p xs)) ∙ more
  stops_by x xs false e more = ap not e

  stops_there : (xs : List ℕ) → stops (drop (prefix_len p xs) xs) ≡ true
  stops_there [] = refl
  stops_there (x ∷ xs) = stops_by x xs (p x) refl (stops_there xs)

both : (t : Bool) → not (not t) ≡ t
both true = refl
both false = refl

all_same : (p q : ℕ → Bool) → ((x : ℕ) → p x ≡ q x) → (xs : List ℕ) → list_all p xs ≡ list_all q xs
all_same p q e [] = refl
all_same p q e (x ∷ xs) = ap₂ (λ a b. a && b) (e x) (all_same p q e xs)

past_same : (xs : List ℕ) → stops (λ b. not (blank b)) xs ≡ is_past_word xs
past_same [] = refl
past_same (b ∷ bs) = both (blank b)

-- so many of the front, and what follows
cut_whole : (n : ℕ) (xs : List ℕ) → take n xs ++ drop (length (take n xs)) xs ≡ xs
cut_whole zero xs = refl
cut_whole (suc n) [] = refl
cut_whole (suc n) (x ∷ xs) = ap (λ t. x ∷ t) (cut_whole n xs)

cut_rest : (n : ℕ) (xs : List ℕ) → drop (length (take n xs)) xs ≡ drop n xs
cut_rest zero xs = refl
cut_rest (suc n) [] = refl
cut_rest (suc n) (x ∷ xs) = cut_rest n xs

abbrev letter : ℕ → Bool
letter b = not (blank b)

abbrev no_letter : ℕ → Bool
no_letter b = not (letter b)

some_at : (x : ℕ) (xs : List ℕ) (t : Bool) → blank x ≡ t → not (not (not t)) ≡ true → 0 < length (take (cond (not t) (1 + prefix_len letter xs) 0) (x ∷ xs))
some_at x xs true e is = absurd cc
some_at x xs false e is = subst (λ n. 0 < length (take n (x ∷ xs))) (sym (one_more (prefix_len letter xs))) (omega arith)

some_by : (s : List ℕ) → stops no_letter s ≡ true → 0 < length s → 0 < length (take (prefix_len letter s) s)
some_by [] is some = absurd (omega (arith, some))
some_by (x ∷ xs) is some = some_at x xs (blank x) refl is

pub words_are_runs : WordsAreRuns
words_are_runs l =
    let s : List ℕ = begun l in
    let n : ℕ = prefix_len letter s in
    record {
      front = sym (all_same no_letter blank (λ x. both (blank x)) (take (blanks l) l)) ∙ passes no_letter l;
      whole = ap (λ t. take (blanks l) l ++ t) (cut_whole n s) ∙ take-append-drop (blanks l) l;
      inside = passes letter s;
      past = ap is_past_word (cut_rest n s) ∙ sym (past_same (drop n s)) ∙ stops_there letter s;
      some = some_by s (stops_there no_letter l);
    }
