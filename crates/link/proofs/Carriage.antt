-- What goes through a ring.
use Rattle.std.proofs.Common.{◌≡◌, ℕ, suc, true, false, List, [], ◌∷◌, ◌++◌, Some, None, refl, sym, ◌∙◌, ap, ap₂, arith, append_assoc, append-nil}
use Rattle.std.specs.Prelude.{slice_get}
use Rattle.std.specs.List.{flat_map}
use Rattle.link.specs.Meaning.{Waiting, bytes_of}
use Rattle.link.specs.Carried.{Event, Put, Polled, Replied, Done, put_in, come_out, Carries, Carried, ring_of}

same_byte : {b c : ℕ} → Some b ≡ Some c → b ≡ c
same_byte same = ap (λ byte. elim byte [ Some x ↦ x | None ↦ 0 ]) same

-- bytes that are alike at every place
alike : (bytes others : List ℕ) → ((k : ℕ) → slice_get bytes k ≡ slice_get others k) → bytes ≡ others
alike [] [] same = refl
alike [] (c ∷ others) same = absurd (cc (same 0))
alike (b ∷ bytes) [] same = absurd (cc (same 0))
alike (b ∷ bytes) (c ∷ others) same = ap₂ ◌∷◌ (same_byte (same 0)) (alike bytes others (λ k. same (suc k)))

-- a poll takes the first byte, if there is one
taken_first : (bytes bytes' : List ℕ) → ((k : ℕ) → slice_get bytes' k ≡ slice_get bytes (suc k)) → bytes ≡ bytes_of (slice_get bytes 0) ++ bytes'
taken_first [] bytes' onward = sym (alike bytes' [] onward)
taken_first (b ∷ bytes) bytes' onward = ap (λ (xs : List ℕ). b ∷ xs) (sym (alike bytes' bytes onward))

-- one event
carried_once : (w : Waiting) (event : Event) (w' : Waiting) → Done w event w' → w.bytes ++ put_in event ≡ come_out event ++ w'.bytes
carried_once w (Put byte true) w' (room, is) = sym (ap (λ (w : Waiting). w.bytes) is)
carried_once w (Put byte false) w' (full, is) = append-nil w.bytes ∙ sym (ap (λ (w : Waiting). w.bytes) is)
carried_once w (Polled came) w' (is, polled) =
    append-nil w.bytes ∙ taken_first w.bytes w'.bytes polled.onward ∙ ap (λ c. bytes_of c ++ w'.bytes) (sym is)
carried_once w (Replied byte) w' replied = append-nil w.bytes ∙ sym (alike w'.bytes w.bytes replied.kept)

pub carries : (w : Waiting) → Carries w
carries w [] w' same = append-nil w.bytes ∙ sym (ap (λ (w : Waiting). w.bytes) same)
carries w (event ∷ events) w' (next, done, happens) =
    sym (append_assoc w.bytes (put_in event) (flat_map put_in events))
    ∙ ap (λ xs. xs ++ flat_map put_in events) (carried_once w event next done)
    ∙ append_assoc (come_out event) next.bytes (flat_map put_in events)
    ∙ ap (λ xs. come_out event ++ xs) (carries next events w' happens)
    ∙ sym (append_assoc (come_out event) (flat_map come_out events) w'.bytes)

-- polls that give the first byte of those that wait
polled : (b : ℕ) (bytes : List ℕ) → Done (ring_of (b ∷ bytes)) (Polled (Some b)) (ring_of bytes)
polled b bytes = (refl, record { onward = λ k. refl; quiet = refl })

pub carried : Carried
carried = (
  ring_of (7 ∷ []),
  (omega arith, refl),
  (
    ring_of (7 ∷ 9 ∷ []),
    (omega arith, refl),
    (
      ring_of (9 ∷ []),
      polled 7 (9 ∷ []),
      (
        ring_of (9 ∷ 8 ∷ []),
        (omega arith, refl),
        (ring_of (8 ∷ []), polled 9 (8 ∷ []), refl),
      ),
    ),
  ),
)
