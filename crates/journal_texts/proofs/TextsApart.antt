-- Texts of journals tell their events.
use Rattle.std.proofs.Common.{◌≡◌, ℕ, ◌<◌, ◌≤◌, ◌^◌, List, [], ◌∷◌, ◌++◌, drop, length, refl, arith, ap, sym, subst, ◌∙◌, append_assoc}
use Rattle.std.specs.Prelude.{codes}
use Rattle.std.specs.List.{flat_map}
use Rattle.std.specs.Char.{digit_value}
use Rattle.std.specs.Fmt.{decimal}
use Rattle.std.specs.Str.Parse.{AllDigits}
use Rattle.std.proofs.lemmas.Fmt.{decimal_injective, decimal_is_IsNumeral}
use Rattle.mesh_rules.specs.Texts.{line}
use Rattle.cycle_rounds.specs.Events.{Each}
use Rattle.sparse_pool.specs.declared.place.Place.{Place}
use Rattle.cycle_events.specs.declared.event.Event.{Event}
use Rattle.cycle_events.specs.declared.event.Event.TheVariants.{Take, Give, Deliver}
use Rattle.journal_texts.specs.Lines.{IsOfWords, IsPlaceOfWords, event_line, place_text, places_text}
use Rattle.journal_texts.specs.Journal.{TextsTellEvents, heading_text}

-- what may stand behind a number: nothing, or a byte that is no digit
abbrev Ends : List ℕ → Type 0
Ends [] = Unit {0}
Ends (c ∷ cs) = digit_value c < 10 → ⊥

-- two lists cut where the digits end
record Cut (x y r s : List ℕ) : Type 0 where
  first : x ≡ y
  rest : r ≡ s

cut : (x y r s : List ℕ) → AllDigits 10 x → AllDigits 10 y → Ends r → Ends s → x ++ r ≡ y ++ s → Cut x y r s
cut [] [] r s dx dy er es e = record { first = refl; rest = e }
cut [] (d ∷ y) [] s dx dy er es e = absurd (cc)
cut [] (d ∷ y) (c ∷ r) s dx dy er es e = (let h : d ≡ c = cc in absurd (er (subst (λ v. digit_value v < 10) h dy.0)))
cut (c ∷ x) [] r [] dx dy er es e = absurd (cc)
cut (c ∷ x) [] r (d ∷ s) dx dy er es e = (let h : c ≡ d = cc in absurd (es (subst (λ v. digit_value v < 10) h dx.0)))
cut (c ∷ x) (d ∷ y) r s dx dy er es e =
    let h : c ≡ d = cc in
    let t : x ++ r ≡ y ++ s = cc in
    let p = cut x y r s dx.1 dy.1 er es t in
    record { first = ap (λ v. v ∷ x) h ∙ ap (λ (v : List ℕ). d ∷ v) p.first; rest = p.rest }

-- a number and what stands behind it
record Number (m n : ℕ) (r s : List ℕ) : Type 0 where
  number : m ≡ n
  rest : r ≡ s

digits_of : (n : ℕ) → n < 2 ^ 32 → AllDigits 10 (decimal n)
digits_of n h = (decimal_is_IsNumeral n (omega arith)).0.1

number : (m n : ℕ) (r s : List ℕ) → m < 2 ^ 32 → n < 2 ^ 32 → Ends r → Ends s → decimal m ++ r ≡ decimal n ++ s → Number m n r s
number m n r s hm hn er es e =
    let p = cut (decimal m) (decimal n) r s (digits_of m hm) (digits_of n hn) er es e in
    record { number = decimal_injective m n (omega arith) (omega arith) p.first; rest = p.rest }

-- a number begins with a digit
begins : (n : ℕ) → n < 2 ^ 32 → (c : ℕ) × (cs : List ℕ) × (decimal n ≡ c ∷ cs) × (digit_value c < 10)
begins n h = at (decimal n) refl (decimal_is_IsNumeral n (omega arith)).0.0 (digits_of n h)
  where
    at : (ds : List ℕ) → decimal n ≡ ds → 0 < length ds → AllDigits 10 ds → (c : ℕ) × (cs : List ℕ) × (decimal n ≡ c ∷ cs) × (digit_value c < 10)
    at [] e some d = absurd (omega arith)
    at (c ∷ cs) e some d = (c, cs, e, d.0)

-- what may stand behind places: no space with a digit behind it
abbrev NoPlace : List ℕ → Type 0
NoPlace r = (c : ℕ) (cs : List ℕ) → digit_value c < 10 → r ≡ 32 ∷ (c ∷ cs) → ⊥

regroup : (b f z r : List ℕ) (dot : ℕ) → ((b ++ (dot ∷ f)) ++ z) ++ r ≡ b ++ (dot ∷ (f ++ (z ++ r)))
regroup b f z r dot = append_assoc (b ++ (dot ∷ f)) z r ∙ append_assoc b (dot ∷ f) (z ++ r)

no_digit : (c : ℕ) → 10 ≤ digit_value c → digit_value c < 10 → ⊥
no_digit c h k = omega arith

places_end : (places : List Place) (r : List ℕ) → Ends r → Ends (places_text places ++ r)
places_end [] r h = h
places_end (p ∷ ps) r h = λ k. absurd (omega arith)

record SamePlaces (a b : List Place) (r s : List ℕ) : Type 0 where
  places : a ≡ b
  rest : r ≡ s

not_place : (p : Place) (z r s : List ℕ) → IsPlaceOfWords p → NoPlace s → (place_text p ++ z) ++ r ≡ s → ⊥
not_place p z r s w none e =
    let d = begins p.block w.0 in
    none d.0 (d.1 ++ (46 ∷ (decimal p.field ++ (z ++ r)))) d.3
    (sym e ∙ (ap (λ (v : List ℕ). 32 ∷ v) (regroup (decimal p.block) (decimal p.field) z r 46)
    ∙ ap (λ (v : List ℕ). 32 ∷ (v ++ (46 ∷ (decimal p.field ++ (z ++ r))))) d.2))

places_cut : (a b : List Place) (r s : List ℕ) → Each IsPlaceOfWords a → Each IsPlaceOfWords b → Ends r → Ends s → NoPlace r → NoPlace s →
    places_text a ++ r ≡ places_text b ++ s → SamePlaces a b r s
places_cut [] [] r s wa wb er es nr ns e = record { places = refl; rest = e }
places_cut [] (q ∷ qs) r s wa wb er es nr ns e = absurd (not_place q (places_text qs) s r wb.0 nr (sym e))
places_cut (p ∷ ps) [] r s wa wb er es nr ns e = absurd (not_place p (places_text ps) r s wa.0 ns e)
places_cut (p ∷ ps) (q ∷ qs) r s wa wb er es nr ns e =
    let t : ((decimal p.block ++ (46 ∷ decimal p.field)) ++ places_text ps) ++ r ≡ ((decimal q.block ++ (46 ∷ decimal q.field)) ++ places_text qs) ++ s = cc in
    let u = sym (regroup (decimal p.block) (decimal p.field) (places_text ps) r 46) ∙ (t ∙ regroup (decimal q.block) (decimal q.field) (places_text qs) s 46) in
    let block = number p.block q.block (46 ∷ (decimal p.field ++ (places_text ps ++ r))) (46 ∷ (decimal q.field ++ (places_text qs ++ s))) wa.0.0 wb.0.0
    (no_digit 46 (omega arith)) (no_digit 46 (omega arith)) u in
    let after = block.rest in
    let v : decimal p.field ++ (places_text ps ++ r) ≡ decimal q.field ++ (places_text qs ++ s) = cc in
    let field = number p.field q.field (places_text ps ++ r) (places_text qs ++ s) wa.0.1 wb.0.1 (places_end ps r er) (places_end qs s es) v in
    let more = places_cut ps qs r s wa.1 wb.1 er es nr ns field.rest in
    record { places = same_first p q block.number field.number ∙ ap (λ (w : List Place). q ∷ w) more.places; rest = more.rest }
  where
    same_first : (p q : Place) → p.block ≡ q.block → p.field ≡ q.field → (p ∷ ps) ≡ (q ∷ ps)
    same_first p q e f = ap (λ v. record { block = v; field = p.field } ∷ ps) e ∙ ap (λ v. record { block = q.block; field = v } ∷ ps) f

-- three numbers, each behind a space but the first, and what stands behind them
three_regroup : (a b c r : List ℕ) (space : ℕ) → (a ++ (space ∷ (b ++ (space ∷ c)))) ++ r ≡ a ++ (space ∷ (b ++ (space ∷ (c ++ r))))
three_regroup a b c r space =
    append_assoc a (space ∷ (b ++ (space ∷ c))) r ∙ ap (λ (v : List ℕ). a ++ (space ∷ v)) (append_assoc b (space ∷ c) r)

record Three (a b c d e f : ℕ) (r s : List ℕ) : Type 0 where
  first : a ≡ d
  second : b ≡ e
  third : c ≡ f
  rest : r ≡ s

three_cut : (a b c d e f : ℕ) (r s : List ℕ) → a < 2 ^ 32 → b < 2 ^ 32 → c < 2 ^ 32 → d < 2 ^ 32 → e < 2 ^ 32 → f < 2 ^ 32 → Ends r → Ends s →
    decimal a ++ (32 ∷ (decimal b ++ (32 ∷ (decimal c ++ r)))) ≡ decimal d ++ (32 ∷ (decimal e ++ (32 ∷ (decimal f ++ s)))) → Three a b c d e f r s
three_cut a b c d e f r s ha hb hc hd he hf er es h =
    let p = number a d (32 ∷ (decimal b ++ (32 ∷ (decimal c ++ r)))) (32 ∷ (decimal e ++ (32 ∷ (decimal f ++ s)))) ha hd (no_digit 32 (omega arith)) (no_digit 32 (omega arith)) h in
    let after = p.rest in
    let t : decimal b ++ (32 ∷ (decimal c ++ r)) ≡ decimal e ++ (32 ∷ (decimal f ++ s)) = cc in
    let q = number b e (32 ∷ (decimal c ++ r)) (32 ∷ (decimal f ++ s)) hb he (no_digit 32 (omega arith)) (no_digit 32 (omega arith)) t in
    let then = q.rest in
    let u : decimal c ++ r ≡ decimal f ++ s = cc in
    let o = number c f r s hc hf er es u in
    record { first = p.number; second = q.number; third = o.number; rest = o.rest }

-- what stands behind the places of an event
line_ends : (r : List ℕ) → Ends (10 ∷ r)
line_ends r = no_digit 10 (omega arith)

abbrev first_byte : List ℕ → ℕ
first_byte [] = 0
first_byte (x ∷ xs) = x

abbrev second_byte : List ℕ → ℕ
second_byte [] = 0
second_byte (x ∷ xs) = first_byte xs

not_same : (a b : ℕ) → (a ≡ b → ⊥) → (x y : List ℕ) → first_byte x ≡ a → first_byte y ≡ b → x ≡ y → ⊥
not_same a b ne x y hx hy e = ne (sym hx ∙ (ap first_byte e ∙ hy))

line_no_place : (r : List ℕ) → NoPlace (10 ∷ r)
line_no_place r c cs d e = not_same 10 32 (λ h. omega arith) (10 ∷ r) (32 ∷ (c ∷ cs)) refl refl e

freed_no_place : (r : List ℕ) → NoPlace (codes " freed" ++ r)
freed_no_place r c cs d e = no_digit 102 (omega arith) (subst (λ v. digit_value v < 10) (sym (ap second_byte e)) d)

-- lines in the order in which they are read
take_form : (w a b c z r : List ℕ) → (((w ++ (a ++ (32 ∷ (b ++ (32 ∷ c))))) ++ z) ++ (10 ∷ [])) ++ r ≡ w ++ (a ++ (32 ∷ (b ++ (32 ∷ (c ++ (z ++ (10 ∷ r)))))))
take_form w a b c z r =
    let t = a ++ (32 ∷ (b ++ (32 ∷ c))) in
    append_assoc ((w ++ t) ++ z) (10 ∷ []) r
    ∙ (append_assoc (w ++ t) z (10 ∷ r)
    ∙ (append_assoc w t (z ++ (10 ∷ r))
    ∙ ap (λ (v : List ℕ). w ++ v) (three_regroup a b c (z ++ (10 ∷ r)) 32)))

give_form : (w a b c m y f z r : List ℕ) → ((((((w ++ (a ++ (32 ∷ (b ++ (32 ∷ c))))) ++ m) ++ y) ++ f) ++ z) ++ (10 ∷ [])) ++ r
    ≡ w ++ (a ++ (32 ∷ (b ++ (32 ∷ (c ++ (m ++ (y ++ (f ++ (z ++ (10 ∷ r))))))))))
give_form w a b c m y f z r =
    let t = a ++ (32 ∷ (b ++ (32 ∷ c))) in
    append_assoc (((((w ++ t) ++ m) ++ y) ++ f) ++ z) (10 ∷ []) r
    ∙ (append_assoc ((((w ++ t) ++ m) ++ y) ++ f) z (10 ∷ r)
    ∙ (append_assoc (((w ++ t) ++ m) ++ y) f (z ++ (10 ∷ r))
    ∙ (append_assoc ((w ++ t) ++ m) y (f ++ (z ++ (10 ∷ r)))
    ∙ (append_assoc (w ++ t) m (y ++ (f ++ (z ++ (10 ∷ r))))
    ∙ (append_assoc w t (m ++ (y ++ (f ++ (z ++ (10 ∷ r)))))
    ∙ ap (λ (v : List ℕ). w ++ v) (three_regroup a b c (m ++ (y ++ (f ++ (z ++ (10 ∷ r))))) 32))))))

deliver_form : (w a b m z r : List ℕ) → (((((w ++ a) ++ (32 ∷ b)) ++ m) ++ z) ++ (10 ∷ [])) ++ r ≡ w ++ (a ++ (32 ∷ (b ++ (m ++ (z ++ (10 ∷ r))))))
deliver_form w a b m z r =
    append_assoc ((((w ++ a) ++ (32 ∷ b)) ++ m) ++ z) (10 ∷ []) r
    ∙ (append_assoc (((w ++ a) ++ (32 ∷ b)) ++ m) z (10 ∷ r)
    ∙ (append_assoc ((w ++ a) ++ (32 ∷ b)) m (z ++ (10 ∷ r))
    ∙ (append_assoc (w ++ a) (32 ∷ b) (m ++ (z ++ (10 ∷ r)))
    ∙ append_assoc w a (32 ∷ (b ++ (m ++ (z ++ (10 ∷ r))))))))

-- one event and what stands behind its line
record SameEvent (e d : Event) (r s : List ℕ) : Type 0 where
  event : e ≡ d
  rest : r ≡ s

take_cut : (a b c d e f : ℕ) (x y : List Place) (r s : List ℕ) → IsOfWords (Take a b c x) → IsOfWords (Take d e f y) →
    event_line (Take a b c x) ++ r ≡ event_line (Take d e f y) ++ s → SameEvent (Take a b c x) (Take d e f y) r s
take_cut a b c d e f x y r s wa wb h =
    let t = sym (take_form (codes "take ") (decimal a) (decimal b) (decimal c) (places_text x) r) ∙ (h ∙ take_form (codes "take ") (decimal d) (decimal e) (decimal f) (places_text y) s) in
    let u : decimal a ++ (32 ∷ (decimal b ++ (32 ∷ (decimal c ++ (places_text x ++ (10 ∷ r)))))) ≡ decimal d ++ (32 ∷ (decimal e ++ (32 ∷ (decimal f ++ (places_text y ++ (10 ∷ s)))))) = ap (drop 5) t in
    let p = three_cut a b c d e f (places_text x ++ (10 ∷ r)) (places_text y ++ (10 ∷ s)) wa.0 wa.1 wa.2 wb.0 wb.1 wb.2
    (places_end x (10 ∷ r) (line_ends r)) (places_end y (10 ∷ s) (line_ends s)) u in
    let q = places_cut x y (10 ∷ r) (10 ∷ s) wa.3 wb.3 (line_ends r) (line_ends s) (line_no_place r) (line_no_place s) p.rest in
    record { event = cc; rest = ap (drop 1) q.rest }

give_cut : (a b c d e f : ℕ) (x y m n : List Place) (r s : List ℕ) → IsOfWords (Give a b c x m) → IsOfWords (Give d e f y n) →
    event_line (Give a b c x m) ++ r ≡ event_line (Give d e f y n) ++ s → SameEvent (Give a b c x m) (Give d e f y n) r s
give_cut a b c d e f x y m n r s wa wb h =
    let t = sym (give_form (codes "give ") (decimal a) (decimal b) (decimal c) (codes " made") (places_text x) (codes " freed") (places_text m) r)
    ∙ (h ∙ give_form (codes "give ") (decimal d) (decimal e) (decimal f) (codes " made") (places_text y) (codes " freed") (places_text n) s) in
    let v = codes " freed" ++ (places_text m ++ (10 ∷ r)) in
    let w = codes " freed" ++ (places_text n ++ (10 ∷ s)) in
    let u : decimal a ++ (32 ∷ (decimal b ++ (32 ∷ (decimal c ++ (codes " made" ++ (places_text x ++ v)))))) ≡ decimal d ++ (32 ∷ (decimal e ++ (32 ∷ (decimal f ++ (codes " made" ++ (places_text y ++ w)))))) = ap (drop 5) t in
    let p = three_cut a b c d e f (codes " made" ++ (places_text x ++ v)) (codes " made" ++ (places_text y ++ w)) wa.0 wa.1 wa.2 wb.0 wb.1 wb.2
    (no_digit 32 (omega arith)) (no_digit 32 (omega arith)) u in
    let after : places_text x ++ v ≡ places_text y ++ w = ap (drop 5) p.rest in
    let q = places_cut x y v w wa.3 wb.3 (no_digit 32 (omega arith)) (no_digit 32 (omega arith)) (freed_no_place (places_text m ++ (10 ∷ r))) (freed_no_place (places_text n ++ (10 ∷ s))) after in
    let then : places_text m ++ (10 ∷ r) ≡ places_text n ++ (10 ∷ s) = ap (drop 6) q.rest in
    let o = places_cut m n (10 ∷ r) (10 ∷ s) wa.4 wb.4 (line_ends r) (line_ends s) (line_no_place r) (line_no_place s) then in
    record { event = cc; rest = ap (drop 1) o.rest }

deliver_cut : (a b d e : ℕ) (x y : List Place) (r s : List ℕ) → IsOfWords (Deliver a b x) → IsOfWords (Deliver d e y) →
    event_line (Deliver a b x) ++ r ≡ event_line (Deliver d e y) ++ s → SameEvent (Deliver a b x) (Deliver d e y) r s
deliver_cut a b d e x y r s wa wb h =
    let t = sym (deliver_form (codes "deliver ") (decimal a) (decimal b) (codes " made") (places_text x) r) ∙ (h ∙ deliver_form (codes "deliver ") (decimal d) (decimal e) (codes " made") (places_text y) s) in
    let v = codes " made" ++ (places_text x ++ (10 ∷ r)) in
    let w = codes " made" ++ (places_text y ++ (10 ∷ s)) in
    let u : decimal a ++ (32 ∷ (decimal b ++ v)) ≡ decimal d ++ (32 ∷ (decimal e ++ w)) = ap (drop 8) t in
    let p = number a d (32 ∷ (decimal b ++ v)) (32 ∷ (decimal e ++ w)) wa.0 wb.0 (no_digit 32 (omega arith)) (no_digit 32 (omega arith)) u in
    let after : decimal b ++ v ≡ decimal e ++ w = ap (drop 1) p.rest in
    let q = number b e v w wa.1 wb.1 (no_digit 32 (omega arith)) (no_digit 32 (omega arith)) after in
    let then : places_text x ++ (10 ∷ r) ≡ places_text y ++ (10 ∷ s) = ap (drop 5) q.rest in
    let o = places_cut x y (10 ∷ r) (10 ∷ s) wa.2 wb.2 (line_ends r) (line_ends s) (line_no_place r) (line_no_place s) then in
    record { event = cc; rest = ap (drop 1) o.rest }

-- the first byte of a line tells the kind of its event
event_cut : (e d : Event) (r s : List ℕ) → IsOfWords e → IsOfWords d → event_line e ++ r ≡ event_line d ++ s → SameEvent e d r s
event_cut (Take a b c x) (Take d e f y) r s wa wb h = take_cut a b c d e f x y r s wa wb h
event_cut (Take a b c x) (Give d e f y n) r s wa wb h = absurd (not_same 116 103 (λ k. omega arith) (event_line (Take a b c x) ++ r) (event_line (Give d e f y n) ++ s) refl refl h)
event_cut (Take a b c x) (Deliver d e y) r s wa wb h = absurd (not_same 116 100 (λ k. omega arith) (event_line (Take a b c x) ++ r) (event_line (Deliver d e y) ++ s) refl refl h)
event_cut (Give a b c x m) (Take d e f y) r s wa wb h = absurd (not_same 103 116 (λ k. omega arith) (event_line (Give a b c x m) ++ r) (event_line (Take d e f y) ++ s) refl refl h)
event_cut (Give a b c x m) (Give d e f y n) r s wa wb h = give_cut a b c d e f x y m n r s wa wb h
event_cut (Give a b c x m) (Deliver d e y) r s wa wb h = absurd (not_same 103 100 (λ k. omega arith) (event_line (Give a b c x m) ++ r) (event_line (Deliver d e y) ++ s) refl refl h)
event_cut (Deliver a b x) (Take d e f y) r s wa wb h = absurd (not_same 100 116 (λ k. omega arith) (event_line (Deliver a b x) ++ r) (event_line (Take d e f y) ++ s) refl refl h)
event_cut (Deliver a b x) (Give d e f y n) r s wa wb h = absurd (not_same 100 103 (λ k. omega arith) (event_line (Deliver a b x) ++ r) (event_line (Give d e f y n) ++ s) refl refl h)
event_cut (Deliver a b x) (Deliver d e y) r s wa wb h = deliver_cut a b d e x y r s wa wb h

no_event_ends : (e : Event) (r : List ℕ) → event_line e ++ r ≡ line (codes "end") → ⊥
no_event_ends (Take a b c x) r h = not_same 116 101 (λ k. omega arith) (event_line (Take a b c x) ++ r) (line (codes "end")) refl refl h
no_event_ends (Give a b c x m) r h = not_same 103 101 (λ k. omega arith) (event_line (Give a b c x m) ++ r) (line (codes "end")) refl refl h
no_event_ends (Deliver a b x) r h = not_same 100 101 (λ k. omega arith) (event_line (Deliver a b x) ++ r) (line (codes "end")) refl refl h

lines_tell : (a b : List Event) → Each IsOfWords a → Each IsOfWords b → flat_map event_line a ++ line (codes "end") ≡ flat_map event_line b ++ line (codes "end") → a ≡ b
lines_tell [] [] wa wb h = refl
lines_tell [] (d ∷ ds) wa wb h = absurd (no_event_ends d (flat_map event_line ds ++ line (codes "end")) (sym (append_assoc (event_line d) (flat_map event_line ds) (line (codes "end"))) ∙ sym h))
lines_tell (e ∷ es) [] wa wb h = absurd (no_event_ends e (flat_map event_line es ++ line (codes "end")) (sym (append_assoc (event_line e) (flat_map event_line es) (line (codes "end"))) ∙ h))
lines_tell (e ∷ es) (d ∷ ds) wa wb h =
    let p = event_cut e d (flat_map event_line es ++ line (codes "end")) (flat_map event_line ds ++ line (codes "end")) wa.0 wb.0
    (sym (append_assoc (event_line e) (flat_map event_line es) (line (codes "end"))) ∙ (h ∙ append_assoc (event_line d) (flat_map event_line ds) (line (codes "end")))) in
    ap (λ (v : Event). v ∷ es) p.event ∙ ap (λ (v : List Event). d ∷ v) (lines_tell es ds wa.1 wb.1 p.rest)

-- what stands behind the same heading
same_rest : (x y z : List ℕ) → x ++ y ≡ x ++ z → y ≡ z
same_rest [] y z h = h
same_rest (c ∷ cs) y z h = same_rest cs y z (ap (drop 1) h)

pub texts_tell_events : TextsTellEvents
texts_tell_events h a b wa wb e =
    lines_tell a b wa wb
    (same_rest (heading_text h) (flat_map event_line a ++ line (codes "end")) (flat_map event_line b ++ line (codes "end"))
    (sym (append_assoc (heading_text h) (flat_map event_line a) (line (codes "end"))) ∙ (e ∙ append_assoc (heading_text h) (flat_map event_line b) (line (codes "end")))))
