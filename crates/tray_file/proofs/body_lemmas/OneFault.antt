-- A body has one fault only.
use Rattle.std.proofs.Common.{◌≡◌, ◌≢◌, ℕ, ◌+◌, ◌<◌, ◌⊎◌, List, ◌++◌, length, get_or, Err, sym, refl, ap, ◌∙◌, subst, inl, inr, ⊎_elim, arith}
use Rattle.std.proofs.lemmas.List.{length-append}
use Rattle.std.proofs.lemmas.Bool.{cases_order}
use Rattle.algebra.specs.Meaning.{Meaning, with_inverses}
use Rattle.algebra.specs.Alphabet.{Alphabet}
use Rattle.fields.specs.Modulo.{Listed}
use Rattle.fields.specs.BinaryArithmetic.{modulo_polynomial}
use Rattle.fields.specs.Binary.{NoModulus}
use Rattle.fields.specs.BinaryModulus.{no_modulus}
use Rattle.fields.specs.PolynomialDegrees.{degree_unique}
use Rattle.fields.specs.Kinds.{prime_kind, binary_kind}
use Rattle.fields.specs.declared.cause.FieldCause.TheVariants.{NoPrime, BadModulus}
use Rattle.codes.specs.Code.{Code}
use Rattle.codes.specs.Checked.{LocatorsFit, MultipliersFit}
use Rattle.codes.specs.declared.card_cause.CardCause.TheVariants.{BadShape, NoAlphabet, BadLocator, BadMultiplier}
use Rattle.tray_file.specs.number.NumberReading.{StandsFirst, EndsInside, NoNumber}
use Rattle.tray_file.proofs.number_lemmas.NumberBytes.{not_inside}
use Rattle.tray_file.specs.declared.fault.body_fault.BodyFault.{BodyFault}
use Rattle.tray_file.specs.declared.fault.body_fault.BodyFault.TheVariants.{BadNumber, BadBody, BadNote, Field, Card, Tag}
use Rattle.tray_file.specs.declared.fault.field_fault.FieldFault.TheVariants.{NoSuchField, Made}
use Rattle.tray_file.specs.declared.fault.tag_cause.TagCause.TheVariants.{NoLetter}
use Rattle.tray_file.specs.body.NumberLists.{numbers, after, Begins, Stops, NumberMissing}
use Rattle.tray_file.specs.body.WholeLists.{GoesOn, ListRefused}
use Rattle.tray_file.specs.body.CardHeads.{head_count, head_numbers, HeadShape, PrimeHead, BinaryHead, FieldOf, HeadFits}
use Rattle.tray_file.specs.body.CardBodies.{Values, ValuesRefused, HeadRefused, RestRefused, CardRead}
use Rattle.tray_file.specs.body.CellBodies.{NoLetters, CellsRefused}
use Rattle.tray_file.specs.declared.body.card_head.CardHead.{CardHead}
use Rattle.tray_file.proofs.body_lemmas.SameNumbers.{are_begins, same_list, next_number, missing_never, bad_never, list_never}
use Rattle.tray_file.proofs.body_lemmas.OneCard.{split_first, split_second, same_code, never_kinds}

-- no number stands first where this holds
abbrev Bars : (List ℕ → Type 0) → Type 0
Bars Missing = (bytes : List ℕ) (value : ℕ) → Missing bytes → StandsFirst value bytes → ⊥

no_number_bars : Bars NoNumber
no_number_bars bytes value bad first = bad.none value first

inside_bars : Bars EndsInside
inside_bars bytes value inside first = not_inside value bytes first inside

-- two stops are at the same place
same_stop : (M N : List ℕ → Type 0) (wanted : ℕ) (bytes : List ℕ) → Bars M → Bars N → (s : Stops M wanted bytes) (t : Stops N wanted bytes) → s.values ≡ t.values
same_stop M N wanted bytes m n s t =
    ⊎_elim (λ (e : length s.values ≡ length t.values). same_list s.values t.values bytes s.begins t.begins e)
    (⊎_elim
    (λ (fewer : length s.values < length t.values).
    let found = next_number s.values t.values bytes s.begins t.begins fewer in
    absurd (m (after s.values bytes) found.0 s.missing found.1))
    (λ (fewer : length t.values < length s.values).
    let found = next_number t.values s.values bytes t.begins s.begins fewer in
    absurd (n (after t.values bytes) found.0 t.missing found.1)))
    (cases_order (length s.values) (length t.values))

-- a stop at a bad number is no stop where the bytes end
one_missing : (wanted : ℕ) (bytes : List ℕ) → Stops NoNumber wanted bytes → Stops EndsInside wanted bytes → ⊥
one_missing wanted bytes s t =
    let same = same_stop NoNumber EndsInside wanted bytes no_number_bars inside_bars s t in
    s.missing.whole (subst (λ (l : List ℕ). EndsInside (after l bytes)) (sym same) t.missing)

more_never : (wanted : ℕ) (bytes : List ℕ) → Stops NoNumber wanted bytes → GoesOn wanted bytes → ⊥
more_never wanted bytes s more = bad_never more.values bytes wanted more.begins (omega (arith, more.all)) s

bad_or_short : (wanted : ℕ) (bytes : List ℕ) → Stops NoNumber wanted bytes → Stops EndsInside wanted bytes ⊎ GoesOn wanted bytes → ⊥
bad_or_short wanted bytes s other = ⊎_elim (one_missing wanted bytes s) (more_never wanted bytes s) other

-- a list of numbers is refused in one way
one_list_fault : (start wanted : ℕ) (bytes : List ℕ) (f g : BodyFault) → ListRefused start wanted bytes f → ListRefused start wanted bytes g → f ≡ g
one_list_fault start wanted bytes (BadNumber place) (BadNumber other) (s, e) (t, d) =
    let same = same_stop NoNumber NoNumber wanted bytes no_number_bars no_number_bars s t in
    ap (λ n. BadNumber n) (e ∙ ap (λ (l : List ℕ). start + length (numbers l)) same ∙ sym d)
one_list_fault start wanted bytes (BadNumber place) BadBody (s, e) short = absurd (bad_or_short wanted bytes s short)
one_list_fault start wanted bytes (BadNumber place) BadNote bad never = absurd never
one_list_fault start wanted bytes (BadNumber place) (Field fault) bad never = absurd never
one_list_fault start wanted bytes (BadNumber place) (Card cause) bad never = absurd never
one_list_fault start wanted bytes (BadNumber place) (Tag cause) bad never = absurd never
one_list_fault start wanted bytes BadBody (BadNumber other) short (t, d) = absurd (bad_or_short wanted bytes t short)
one_list_fault start wanted bytes BadBody BadBody short other = refl
one_list_fault start wanted bytes BadBody BadNote short never = absurd never
one_list_fault start wanted bytes BadBody (Field fault) short never = absurd never
one_list_fault start wanted bytes BadBody (Card cause) short never = absurd never
one_list_fault start wanted bytes BadBody (Tag cause) short never = absurd never
one_list_fault start wanted bytes BadNote g never other = absurd never
one_list_fault start wanted bytes (Field fault) g never other = absurd never
one_list_fault start wanted bytes (Card cause) g never other = absurd never
one_list_fault start wanted bytes (Tag cause) g never other = absurd never

-- a missing number is a refused list
missing_refused : (start wanted : ℕ) (bytes : List ℕ) (f : BodyFault) → NumberMissing start wanted bytes f → ListRefused start wanted bytes f
missing_refused start wanted bytes (BadNumber place) missing = missing
missing_refused start wanted bytes BadBody missing = inl missing
missing_refused start wanted bytes BadNote never = never
missing_refused start wanted bytes (Field fault) never = never
missing_refused start wanted bytes (Card cause) never = never
missing_refused start wanted bytes (Tag cause) never = never

-- cells that are not refused as a list are refused by a letter
letters_or_list : (n letters : ℕ) (body : List ℕ) (f : BodyFault) → CellsRefused n letters body f →
    ListRefused 0 n body f ⊎ ((f ≡ Tag NoLetter) × NoLetters n letters body)
letters_or_list n letters body (BadNumber place) refused = inl refused.1
letters_or_list n letters body BadBody refused = inl refused.1
letters_or_list n letters body (Tag NoLetter) bad = inr (refl, bad.1)
letters_or_list n letters body BadNote never = absurd never
letters_or_list n letters body (Field fault) never = absurd never
letters_or_list n letters body (Card cause) never = absurd never

-- cells are refused in one way
pub one_cells_fault : (n letters : ℕ) (body : List ℕ) (f g : BodyFault) → CellsRefused n letters body f → CellsRefused n letters body g → f ≡ g
one_cells_fault n letters body f g refused also =
    ⊎_elim
    (λ (list : ListRefused 0 n body f). ⊎_elim (one_list_fault 0 n body f g list)
    (λ (bad : (g ≡ Tag NoLetter) × NoLetters n letters body). absurd (list_never 0 n bad.1.values body f bad.1.are bad.1.count list)) (letters_or_list n letters body g also))
    (λ (bad : (f ≡ Tag NoLetter) × NoLetters n letters body).
    ⊎_elim (λ (list : ListRefused 0 n body g). absurd (list_never 0 n bad.1.values body g bad.1.are bad.1.count list))
    (λ (other : (g ≡ Tag NoLetter) × NoLetters n letters body). bad.0 ∙ sym other.0) (letters_or_list n letters body g also))
    (letters_or_list n letters body f refused)

-- the head that has these numbers
abbrev head_with : List ℕ → CardHead
head_with l = record { kind = get_or l 0 0; origin = get_or l 1 0; letters = get_or l 2 0; cells = get_or l 3 0; rows = get_or l 4 0 }

one_head : (body : List ℕ) (a b : CardHead) → Begins (head_numbers a) body → Begins (head_numbers b) body → b ≡ a
one_head body a b first second = ap head_with (same_list (head_numbers b) (head_numbers a) body second first refl)

-- a head names one field
one_field : (head : CardHead) (m n : Meaning) → FieldOf head m → FieldOf head n → n ≡ m
one_field head m n named also =
    ⊎_elim
    (λ (p : PrimeHead head m). ⊎_elim (λ (q : PrimeHead head n). q.meaning ∙ sym p.meaning)
    (λ (q : BinaryHead head n). absurd (never_kinds head.kind p.kind q.kind)) also)
    (λ (p : BinaryHead head m). ⊎_elim (λ (q : PrimeHead head n). absurd (never_kinds head.kind q.kind p.kind))
    (λ (q : BinaryHead head n).
    let degree = degree_unique head.origin q.degree p.degree q.origin.degree p.origin.degree in
    q.meaning ∙ ap (λ k. with_inverses (modulo_polynomial head.origin k)) degree ∙ sym p.meaning) also)
    named

-- what follows a head, read in two ways, is one code
one_values : (m : Meaning) (head : CardHead) (body : List ℕ) (a b : Code) → Values m head body a → Values m head body b → b ≡ a
one_values m head body a b is also =
    let rest = after (head_numbers head) body in
    let long : length (b.locators ++ b.multipliers) ≡ length (a.locators ++ a.multipliers) =
    omega (arith, length-append a.locators a.multipliers, length-append b.locators b.multipliers, is.locators, is.multipliers, also.locators, also.multipliers) in
    let joined = same_list (b.locators ++ b.multipliers) (a.locators ++ a.multipliers) rest (are_begins _ _ also.lists) (are_begins _ _ is.lists) long in
    let count : length b.locators ≡ length a.locators = also.locators ∙ sym is.locators in
    same_code b a (also.letters ∙ sym is.letters) (also.rows ∙ sym is.rows)
    (split_first b.locators b.multipliers a.locators a.multipliers joined count)
    (split_second b.locators b.multipliers a.locators a.multipliers joined count)

-- The rules of a card's values that break, one of which is the first.
module _ (m : Meaning) (head : CardHead) (body : List ℕ) where
  abbrev start : ℕ
  start = length (numbers (head_numbers head))

  abbrev wanted : ℕ
  wanted = head.cells + head.cells

  abbrev rest : List ℕ
  rest = after (head_numbers head) body

  -- values that were read are not refused as lists
  values_list_never : (code : Code) (f : BodyFault) → Values m head body code → ListRefused start wanted rest f → ⊥
  values_list_never code f values refused =
      list_never start wanted (code.locators ++ code.multipliers) rest f values.lists
      (omega (arith, length-append code.locators code.multipliers, values.locators, values.multipliers)) refused

  no_shape_fault : (g : BodyFault) → (HeadShape head → ⊥) → ValuesRefused m head body g → g ≡ Card BadShape
  no_shape_fault (BadNumber place) none refused = absurd (none refused.1.shape)
  no_shape_fault BadBody none refused = absurd (none refused.1.shape)
  no_shape_fault (Card BadShape) none refused = refl
  no_shape_fault (Card NoAlphabet) none refused = absurd (none refused.1)
  no_shape_fault (Card BadLocator) none refused = absurd (none refused.2.fits.shape)
  no_shape_fault (Card BadMultiplier) none refused = absurd (none refused.2.fits.shape)
  no_shape_fault BadNote none never = absurd never
  no_shape_fault (Field fault) none never = absurd never
  no_shape_fault (Tag cause) none never = absurd never

  no_alphabet_fault : (g : BodyFault) → HeadShape head → (Alphabet m.arithmetic head.letters → ⊥) → ValuesRefused m head body g → g ≡ Card NoAlphabet
  no_alphabet_fault (BadNumber place) shape none refused = absurd (none refused.1.alphabet)
  no_alphabet_fault BadBody shape none refused = absurd (none refused.1.alphabet)
  no_alphabet_fault (Card BadShape) shape none refused = absurd (refused.1 shape)
  no_alphabet_fault (Card NoAlphabet) shape none refused = refl
  no_alphabet_fault (Card BadLocator) shape none refused = absurd (none refused.2.fits.alphabet)
  no_alphabet_fault (Card BadMultiplier) shape none refused = absurd (none refused.2.fits.alphabet)
  no_alphabet_fault BadNote shape none never = absurd never
  no_alphabet_fault (Field fault) shape none never = absurd never
  no_alphabet_fault (Tag cause) shape none never = absurd never

  no_list_fault : (f g : BodyFault) → HeadFits m head → ListRefused start wanted rest f → ValuesRefused m head body g → f ≡ g
  no_list_fault f (BadNumber place) fits list refused = one_list_fault start wanted rest f (BadNumber place) list refused.2
  no_list_fault f BadBody fits list refused = one_list_fault start wanted rest f BadBody list refused.2
  no_list_fault f (Card BadShape) fits list refused = absurd (refused.1 fits.shape)
  no_list_fault f (Card NoAlphabet) fits list refused = absurd (refused.2 fits.alphabet)
  no_list_fault f (Card BadLocator) fits list refused = absurd (values_list_never refused.1 f refused.2 list)
  no_list_fault f (Card BadMultiplier) fits list refused = absurd (values_list_never refused.1 f refused.2 list)
  no_list_fault f BadNote fits list never = absurd never
  no_list_fault f (Field fault) fits list never = absurd never
  no_list_fault f (Tag cause) fits list never = absurd never

  bad_locator_fault : (code : Code) (g : BodyFault) → Values m head body code → (LocatorsFit m code.locators → ⊥) → ValuesRefused m head body g → g ≡ Card BadLocator
  bad_locator_fault code (BadNumber place) values bad refused = absurd (values_list_never code (BadNumber place) values refused.2)
  bad_locator_fault code BadBody values bad refused = absurd (values_list_never code BadBody values refused.2)
  bad_locator_fault code (Card BadShape) values bad refused = absurd (refused.1 values.fits.shape)
  bad_locator_fault code (Card NoAlphabet) values bad refused = absurd (refused.2 values.fits.alphabet)
  bad_locator_fault code (Card BadLocator) values bad refused = refl
  bad_locator_fault code (Card BadMultiplier) values bad (number, other, also, good, worse) =
      absurd (bad (subst (λ (c : Code). LocatorsFit m c.locators) (one_values m head body code other values also) good))
  bad_locator_fault code BadNote values bad never = absurd never
  bad_locator_fault code (Field fault) values bad never = absurd never
  bad_locator_fault code (Tag cause) values bad never = absurd never

  bad_multiplier_fault : (code : Code) (g : BodyFault) → Values m head body code → LocatorsFit m code.locators → ValuesRefused m head body g →
      (MultipliersFit m code.multipliers → ⊥) → g ≡ Card BadMultiplier
  bad_multiplier_fault code (BadNumber place) values good refused bad = absurd (values_list_never code (BadNumber place) values refused.2)
  bad_multiplier_fault code BadBody values good refused bad = absurd (values_list_never code BadBody values refused.2)
  bad_multiplier_fault code (Card BadShape) values good refused bad = absurd (refused.1 values.fits.shape)
  bad_multiplier_fault code (Card NoAlphabet) values good refused bad = absurd (refused.2 values.fits.alphabet)
  bad_multiplier_fault code (Card BadLocator) values good (number, other, also, worse) bad =
      absurd (worse (subst (λ (c : Code). LocatorsFit m c.locators) (sym (one_values m head body code other values also)) good))
  bad_multiplier_fault code (Card BadMultiplier) values good refused bad = refl
  bad_multiplier_fault code BadNote values good never bad = absurd never
  bad_multiplier_fault code (Field fault) values good never bad = absurd never
  bad_multiplier_fault code (Tag cause) values good never bad = absurd never

  one_values_fault : (f g : BodyFault) → ValuesRefused m head body f → ValuesRefused m head body g → f ≡ g
  one_values_fault (BadNumber place) g refused also = no_list_fault (BadNumber place) g refused.1 refused.2 also
  one_values_fault BadBody g refused also = no_list_fault BadBody g refused.1 refused.2 also
  one_values_fault (Card BadShape) g refused also = sym (no_shape_fault g refused.1 also)
  one_values_fault (Card NoAlphabet) g refused also = sym (no_alphabet_fault g refused.1 refused.2 also)
  one_values_fault (Card BadLocator) g (number, code, values, bad) also = sym (bad_locator_fault code g values bad also)
  one_values_fault (Card BadMultiplier) g (number, code, values, good, bad) also = sym (bad_multiplier_fault code g values good also bad)
  one_values_fault BadNote g never also = absurd never
  one_values_fault (Field fault) g never also = absurd never
  one_values_fault (Tag cause) g never also = absurd never

-- where a head stands that names a field, the head is not refused
head_never : (body : List ℕ) (head : CardHead) (m : Meaning) → Begins (head_numbers head) body → FieldOf head m → (f : BodyFault) → HeadRefused body f → ⊥
head_never body head m begins named (BadNumber place) broken = missing_never 0 head_count (head_numbers head) body (BadNumber place) begins (omega arith) broken.1
head_never body head m begins named BadBody broken = missing_never 0 head_count (head_numbers head) body BadBody begins (omega arith) broken.1
head_never body head m begins named (Field NoSuchField) (number, other, stood, not-prime, not-binary) =
    let same = ap (λ (h : CardHead). h.kind) (one_head body head other begins stood) in
    ⊎_elim (λ (p : PrimeHead head m). not-prime (same ∙ p.kind)) (λ (p : BinaryHead head m). not-binary (same ∙ p.kind)) named
head_never body head m begins named (Field (Made NoPrime)) (number, other, stood, kind, not_listed) =
    let same = one_head body head other begins stood in
    ⊎_elim (λ (p : PrimeHead head m). not_listed (subst (λ (h : CardHead). Listed h.origin) (sym same) p.origin))
    (λ (p : BinaryHead head m). never_kinds other.kind kind (ap (λ (h : CardHead). h.kind) same ∙ p.kind)) named
head_never body head m begins named (Field (Made BadModulus)) (number, other, stood, kind, none) =
    let same = one_head body head other begins stood in
    ⊎_elim (λ (p : PrimeHead head m). never_kinds other.kind (ap (λ (h : CardHead). h.kind) same ∙ p.kind) kind)
    (λ (p : BinaryHead head m). no_modulus head.origin p.degree (subst (λ (h : CardHead). NoModulus h.origin) same none) p.origin) named
head_never body head m begins named BadNote never = never
head_never body head m begins named (Card cause) never = never
head_never body head m begins named (Tag cause) never = never

-- a head that stands and names no field
record NoFieldNamed (body : List ℕ) (f : BodyFault) : Type 0 where
  pub head : CardHead
  pub begins : Begins (head_numbers head) body
  pub broken : ((f ≡ Field NoSuchField) × (head.kind ≢ prime_kind) × (head.kind ≢ binary_kind))
      ⊎ (((f ≡ Field (Made NoPrime)) × (head.kind ≡ prime_kind)) ⊎ ((f ≡ Field (Made BadModulus)) × (head.kind ≡ binary_kind)))

missing_or_unnamed : (body : List ℕ) (f : BodyFault) → HeadRefused body f → NumberMissing 0 head_count body f ⊎ NoFieldNamed body f
missing_or_unnamed body (BadNumber place) missing = inl missing.1
missing_or_unnamed body BadBody missing = inl missing.1
missing_or_unnamed body (Field NoSuchField) (number, head, begins, not-prime, not-binary) =
    inr (record { head = head; begins = begins; broken = inl (refl, not-prime, not-binary) })
missing_or_unnamed body (Field (Made NoPrime)) (number, head, begins, kind, none) = inr (record { head = head; begins = begins; broken = inr (inl (refl, kind)) })
missing_or_unnamed body (Field (Made BadModulus)) (number, head, begins, kind, none) = inr (record { head = head; begins = begins; broken = inr (inr (refl, kind)) })
missing_or_unnamed body BadNote never = absurd never
missing_or_unnamed body (Card cause) never = absurd never
missing_or_unnamed body (Tag cause) never = absurd never

one_unnamed : (body : List ℕ) (f g : BodyFault) → NoFieldNamed body f → NoFieldNamed body g → f ≡ g
one_unnamed body f g a b =
    let same : b.head.kind ≡ a.head.kind = ap (λ (h : CardHead). h.kind) (one_head body a.head b.head a.begins b.begins) in
    ⊎_elim
    (λ x. ⊎_elim (λ y. x.0 ∙ sym y.0) (⊎_elim (λ y. absurd (x.1 (sym same ∙ y.1))) (λ y. absurd (x.2 (sym same ∙ y.1)))) b.broken)
    (⊎_elim
    (λ x. ⊎_elim (λ y. absurd (y.1 (same ∙ x.1))) (⊎_elim (λ y. x.0 ∙ sym y.0) (λ y. absurd (never_kinds a.head.kind x.1 (sym same ∙ y.1)))) b.broken)
    (λ x. ⊎_elim (λ y. absurd (y.2 (same ∙ x.1))) (⊎_elim (λ y. absurd (never_kinds a.head.kind (sym same ∙ y.1) x.1)) (λ y. x.0 ∙ sym y.0)) b.broken))
    a.broken

one_head_fault : (body : List ℕ) (f g : BodyFault) → HeadRefused body f → HeadRefused body g → f ≡ g
one_head_fault body f g refused also =
    ⊎_elim
    (λ (x : NumberMissing 0 head_count body f).
    ⊎_elim (λ (y : NumberMissing 0 head_count body g). one_list_fault 0 head_count body f g (missing_refused 0 head_count body f x) (missing_refused 0 head_count body g y))
    (λ (y : NoFieldNamed body g). absurd (missing_never 0 head_count (head_numbers y.head) body f y.begins (omega arith) x)) (missing_or_unnamed body g also))
    (λ (x : NoFieldNamed body f).
    ⊎_elim (λ (y : NumberMissing 0 head_count body g). absurd (missing_never 0 head_count (head_numbers x.head) body g x.begins (omega arith) y))
    (λ (y : NoFieldNamed body g). one_unnamed body f g x y) (missing_or_unnamed body g also))
    (missing_or_unnamed body f refused)

one_rest_fault : (body : List ℕ) (f g : BodyFault) → RestRefused body f → RestRefused body g → f ≡ g
one_rest_fault body f g a b =
    let same = one_head body a.head b.head a.begins b.begins in
    let named = subst (λ (h : CardHead). FieldOf h b.meaning) same b.field in
    let meaning = one_field a.head a.meaning b.meaning a.field named in
    let here = subst (λ (h : CardHead). ValuesRefused b.meaning h body g) same b.refused in
    one_values_fault a.meaning a.head body f g a.refused (subst (λ (m : Meaning). ValuesRefused m a.head body g) meaning here)

-- a card is refused in one way
pub one_card_fault : (body : List ℕ) (f g : BodyFault) → CardRead body (Err f) → CardRead body (Err g) → f ≡ g
one_card_fault body f g refused also =
    ⊎_elim
    (λ (x : HeadRefused body f). ⊎_elim (one_head_fault body f g x)
    (λ (y : RestRefused body g). absurd (head_never body y.head y.meaning y.begins y.field f x)) also)
    (λ (x : RestRefused body f). ⊎_elim (λ (y : HeadRefused body g). absurd (head_never body x.head x.meaning x.begins x.field g y))
    (one_rest_fault body f g x) also)
    refused
