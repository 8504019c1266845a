-- The words of a line, one after another.
use Rattle.std.proofs.Common.{◌≡◌, ℕ, zero, suc, ◌+◌, ◌<◌, ◌≤◌, Bool, true, false, not, cond, eqb, List, [], ◌∷◌, ◌++◌, length, take, drop, length-drop, Ok, Err, Result, sym, refl, subst, ap, ◌∙◌, append_assoc, append-nil, arith}
use Rattle.std.specs.List.{position_or_len, before_first}
use Rattle.std.proofs.lemmas.Bool.Decides.{nat_tests}
use Rattle.std.proofs.lemmas.Bool.{cond-false, ne_eqb}
use Rattle.shell.specs.declared.wrong.Why.{Why}
use Rattle.shell.specs.declared.wrong.Why.TheVariants.{Missing}
use Rattle.shell.specs.declared.wrong.Misread.{Misread}
use Rattle.shell.specs.Words.{blank, begun, word, after, read_as, field_of, values, values_of, ◌>>=◌}

one_more : (n : ℕ) → 1 + n ≡ suc n
one_more n = omega arith

-- where a word begins

pub begun_blank : (b : ℕ) (bs : List ℕ) → blank b ≡ true → begun (b ∷ bs) ≡ begun bs
begun_blank b bs h =
    ap (λ t. drop (cond (not (not t)) (1 + position_or_len (λ x. not (blank x)) bs) 0) (b ∷ bs)) h
    ∙ ap (λ n. drop n (b ∷ bs)) (one_more (position_or_len (λ x. not (blank x)) bs))

pub begun_letter : (b : ℕ) (bs : List ℕ) → blank b ≡ false → begun (b ∷ bs) ≡ b ∷ bs
begun_letter b bs h = ap (λ t. drop (cond (not (not t)) (1 + position_or_len (λ x. not (blank x)) bs) 0) (b ∷ bs)) h

-- what stands after the first word of bytes that begin with one
abbrev rest_of : List ℕ → List ℕ
rest_of s = drop (length (before_first blank s)) s

pub first_letter : (b : ℕ) (bs : List ℕ) → blank b ≡ false → before_first blank (b ∷ bs) ≡ b ∷ before_first blank bs
first_letter b bs h = ap (λ t. take (cond (not t) (1 + position_or_len blank bs) 0) (b ∷ bs)) h ∙ ap (λ n. take n (b ∷ bs)) (one_more (position_or_len blank bs))

rest_letter : (b : ℕ) (bs : List ℕ) → blank b ≡ false → rest_of (b ∷ bs) ≡ rest_of bs
rest_letter b bs h = ap (λ w. drop (length w) (b ∷ bs)) (first_letter b bs h)

-- a word that comes is not empty
shorter_by : (b : ℕ) (bs : List ℕ) (t : Bool) → blank b ≡ t → (0 < length (begun bs) → length (after bs) < length bs)
    → 0 < length (begun (b ∷ bs)) → length (after (b ∷ bs)) < suc (length bs)
shorter_by b bs true e less some =
    let k = begun_blank b bs e in
    subst (λ s. length (rest_of s) < suc (length bs)) (sym k) (omega (arith, less (subst (λ s. 0 < length s) k some)))
shorter_by b bs false e less some =
    let k = begun_letter b bs e ∙ refl in
    subst (λ s. length (rest_of s) < suc (length bs)) (sym k)
    (subst (λ s. length s < suc (length bs)) (sym (rest_letter b bs e)) (omega (arith, length-drop (length (before_first blank bs)) bs)))

pub shorter : (bs : List ℕ) → 0 < length (begun bs) → length (after bs) < length bs
shorter [] some = absurd (omega (arith, some))
shorter (b ∷ bs) some = shorter_by b bs (blank b) refl (shorter bs) some

in_ok : {A : Type 0} → List ℕ → Result (A × List ℕ) Misread → List ℕ
in_ok bs (Ok p) = p.1
in_ok bs (Err m) = bs

-- what was read leaves fewer bytes
left_by : {A : Type 0} (bs next : List ℕ) (x : A) (r : Result A Why) → read_as bs r ≡ Ok (x, next) → next ≡ after bs
unfolding in_ok
left_by bs next x (Ok y) e = sym (ap (in_ok next) e)
left_by bs next x (Err w) e = absurd cc

pub fewer : {A : Type 0} (read : List ℕ → Result A Why) (bs next : List ℕ) (x : A) → 0 < length (begun bs) → field_of read bs ≡ Ok (x, next) → length next < length bs
fewer read bs next x some e = subst (λ t. length t < length bs) (sym (left_by bs next x _ e)) (shorter bs some)

-- these values were taken, and the bytes `rest` are to come
pub record Taken {A : Type 0} (read : List ℕ → Result A Why) (start : List ℕ) (xs : List A) (rest : List ℕ) : Type 0 where
  pub taken : values_of read start ≡ (values_of read rest >>= λ q. Ok (xs ++ q.0, q.1))

module _ {A : Type 0} (read : List ℕ → Result A Why) where
  -- room for more words than bytes changes nothing
  abbrev more : (List ℕ → Result (List A × List ℕ) Misread) → List ℕ → Result A Why → Result (List A × List ℕ) Misread
  more go bs r = read_as bs r >>= λ p. go p.1 >>= λ q. Ok (p.0 ∷ q.0, q.1)

  more_same : (go go' : List ℕ → Result (List A × List ℕ) Misread) (bs : List ℕ) (r : Result A Why) → go (after bs) ≡ go' (after bs) → more go bs r ≡ more go' bs r
  more_same go go' bs (Ok x) e = ap (λ t. t >>= λ q. Ok (x ∷ q.0, q.1)) e
  more_same go go' bs (Err w) e = refl

  step_same : (go go' : List ℕ → Result (List A × List ℕ) Misread) (bs : List ℕ) (t : Bool) → eqb (length (begun bs)) 0 ≡ t → (0 < length (begun bs) → go (after bs) ≡ go' (after bs))
      → cond t (Ok ([], bs)) (more go bs (cond t (Err Missing) (read (word bs)))) ≡ cond t (Ok ([], bs)) (more go' bs (cond t (Err Missing) (read (word bs))))
  step_same go go' bs true e s = refl
  step_same go go' bs false e s = more_same go go' bs (read (word bs)) (s (grind (arith, nat_tests, e)))

  enough : (k j : ℕ) (bs : List ℕ) → length bs ≤ k → length bs ≤ j → values read k bs ≡ values read j bs
  unfolding values
  enough zero zero bs p q = refl
  enough zero (suc j) [] p q = refl
  enough zero (suc j) (b ∷ bs) p q = absurd (omega arith)
  enough (suc k) zero [] p q = refl
  enough (suc k) zero (b ∷ bs) p q = absurd (omega arith)
  enough (suc k) (suc j) bs p q =
      step_same (values read k) (values read j) bs (eqb (length (begun bs)) 0) refl
      (λ some. enough k j (after bs) (omega (arith, shorter bs some)) (omega (arith, shorter bs some)))

  none_before : (r : Result (List A × List ℕ) Misread) → r ≡ (r >>= λ q. Ok ([] ++ q.0, q.1))
  none_before (Ok q) = refl
  none_before (Err m) = refl

  pub taken_none : (bs : List ℕ) → Taken read bs [] bs
  taken_none bs = record { taken = none_before (values_of read bs) }

  stepped_by : (n : ℕ) (bs : List ℕ) → length bs ≤ n → 0 < length (begun bs) → values read n bs ≡ more (values_of read) bs (cond (eqb (length (begun bs)) 0) (Err Missing) (read (word bs)))
  unfolding values
  stepped_by zero bs h some = absurd (omega (arith, h, shorter bs some))
  stepped_by (suc k) bs h some =
      let comes : eqb (length (begun bs)) 0 ≡ false = ne_eqb _ _ (λ e. omega (arith, e, some)) in
      cond-false (eqb (length (begun bs)) 0) _ _ comes
      ∙ more_same (values read k) (values_of read) bs _ (enough k (length (after bs)) (after bs) (omega (arith, h, shorter bs some)) (omega arith))

  pub stepped : (bs : List ℕ) → 0 < length (begun bs) → values_of read bs ≡ (field_of read bs >>= λ p. values_of read p.1 >>= λ q. Ok (p.0 ∷ q.0, q.1))
  stepped bs some = stepped_by (length bs) bs (omega arith) some

  ended_by : (n : ℕ) (bs : List ℕ) → length (begun bs) ≡ 0 → values read n bs ≡ Ok ([], bs)
  unfolding values
  ended_by zero bs none = refl
  ended_by (suc k) bs none = ap (λ m. cond (eqb m 0) (Ok ([], bs)) (more (values read k) bs (cond (eqb m 0) (Err Missing) (read (word bs))))) none

  abbrev onto : List A → Result (List A × List ℕ) Misread → Result (List A × List ℕ) Misread
  onto xs r = r >>= λ q. Ok (xs ++ q.0, q.1)

  abbrev first : A → Result (List A × List ℕ) Misread → Result (List A × List ℕ) Misread
  first x r = r >>= λ q. Ok (x ∷ q.0, q.1)

  joined : (xs : List A) (x : A) (r : Result (List A × List ℕ) Misread)
      → onto xs (first x r) ≡ onto (xs ++ x ∷ []) r
  joined xs x (Ok q) = ap (λ (l : List A). Ok (l, q.1)) (sym (append_assoc xs (x ∷ []) q.0))
  joined xs x (Err m) = refl

  module _ (start rest : List ℕ) (xs : List A) (t : Taken read start xs rest) where
    pub taken_all : length (begun rest) ≡ 0 → values_of read start ≡ Ok (xs, rest)
    taken_all none =
        t.taken ∙ ap (onto xs) (ended_by (length rest) rest none) ∙ ap (λ (l : List A). Ok (l, rest)) (append-nil xs)

    pub taken_more : (x : A) (next : List ℕ) → 0 < length (begun rest) → field_of read rest ≡ Ok (x, next) → Taken read start (xs ++ x ∷ []) next
    taken_more x next some e =
        record {
          taken =
              t.taken
              ∙ ap (onto xs) (stepped rest some ∙ ap (λ r. r >>= λ p. first p.0 (values_of read p.1)) e)
              ∙ joined xs x (values_of read next);
        }

    pub taken_refused : (m : Misread) → 0 < length (begun rest) → field_of read rest ≡ Err m → values_of read start ≡ Err m
    taken_refused m some e =
        t.taken ∙ ap (onto xs) (stepped rest some ∙ ap (λ r. r >>= λ p. first p.0 (values_of read p.1)) e)
