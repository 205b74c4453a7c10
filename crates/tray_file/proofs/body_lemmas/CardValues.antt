-- A card's values against the body that they stand in.
use Rattle.std.proofs.Common.{◌≡◌, ℕ, ◌+◌, List, ◌∷◌, ◌++◌, length, drop, sym, refl, ap, ◌∙◌, subst, subst₂}
use Rattle.algebra.specs.Meaning.{Meaning}
use Rattle.algebra.specs.Alphabet.{Alphabet}
use Rattle.codes.specs.Code.{Code}
use Rattle.codes.specs.Cards.{CardRefused}
use Rattle.codes.specs.Checked.{Sizes}
use Rattle.codes.specs.declared.card_cause.CardCause.{CardCause}
use Rattle.codes.specs.declared.card_cause.CardCause.TheVariants.{BadShape, NoAlphabet, BadLocator, BadMultiplier}
use Rattle.tray_file.specs.declared.fault.body_fault.BodyFault.{BodyFault}
use Rattle.tray_file.specs.declared.fault.body_fault.BodyFault.TheVariants.{BadNumber, BadBody, BadNote, Field, Card, Tag}
use Rattle.tray_file.specs.declared.body.card_head.CardHead.{CardHead}
use Rattle.tray_file.specs.body.NumberLists.{numbers, after, Begins}
use Rattle.tray_file.specs.body.WholeLists.{ListRefused, Are}
use Rattle.tray_file.specs.body.CardHeads.{head_numbers, HeadFits}
use Rattle.tray_file.specs.body.CardBodies.{card_body, Values, ValuesRefused}
use Rattle.tray_file.proofs.body_lemmas.NumberLists.{numbers_append}

module _ (head : CardHead) (body : List ℕ) (begins : Begins (head_numbers head) body) where
  -- the body of a card whose lists follow the head
  pub card_written : (code : Code) → Are (code.locators ++ code.multipliers) (after (head_numbers head) body) →
      code.letters ≡ head.letters → code.rows ≡ head.rows → length code.locators ≡ head.cells →
      body ≡ card_body head.kind head.origin code
  card_written code are letters rows cells =
      let lists = code.locators ++ code.multipliers in
      begins.front ∙ ap (λ (l : List ℕ). numbers (head_numbers head) ++ l) are.bytes_are ∙ sym (numbers_append (head_numbers head) lists)
      ∙ ap (λ n. numbers (head.kind ∷ head.origin ∷ n ∷ head.cells ∷ head.rows ∷ lists)) (sym letters)
      ∙ ap (λ n. numbers (head.kind ∷ head.origin ∷ code.letters ∷ n ∷ head.rows ∷ lists)) (sym cells)
      ∙ ap (λ n. numbers (head.kind ∷ head.origin ∷ code.letters ∷ length code.locators ∷ n ∷ lists)) (sym rows)

  -- lists that are not read are refused over every field that the head fits
  pub lists_refused : (m : Meaning) (end : ℕ) (fault : BodyFault) → HeadFits m head → end ≡ length (numbers (head_numbers head)) →
      ListRefused end (head.cells + head.cells) (drop end body) fault → ValuesRefused m head body fault
  lists_refused m end fault fits is refused =
      by_fault fault (subst (λ n. ListRefused n (head.cells + head.cells) (drop n body) fault) is refused)
    where
      by_fault : (f : BodyFault) → ListRefused (length (numbers (head_numbers head))) (head.cells + head.cells) (after (head_numbers head) body) f → ValuesRefused m head body f
      by_fault (BadNumber place) no-list = (refl, fits, no-list)
      by_fault BadBody no-list = (refl, fits, no-list)
      by_fault BadNote never = never
      by_fault (Field f) never = never
      by_fault (Card cause) never = absurd never
      by_fault (Tag cause) never = never

  -- values that break a rule of cards
  pub values_refused : (m : Meaning) (code : Code) (cause : CardCause) → Values m head body code → CardRefused m code cause → ValuesRefused m head body (Card cause)
  values_refused m code BadShape values (number, no-shape) = (
    refl,
    λ shape. no-shape (record {
      sizes = subst₂ (λ (n k : ℕ). Sizes n k) (sym values.locators) (sym values.rows) shape;
      a_multiplier_each = values.multipliers ∙ sym values.locators;
    }),
  )
  values_refused m code NoAlphabet values (number, shape, no-alphabet) =
      absurd (no-alphabet (subst (λ n. Alphabet m.arithmetic n) (sym values.letters) values.fits.alphabet))
  values_refused m code BadLocator values (number, shape, alphabet, bad) = (refl, code, values, bad)
  values_refused m code BadMultiplier values (number, shape, alphabet, locators, bad) = (refl, code, values, locators, bad)

-- the values of a head with two lists
module _ (m : Meaning) (head : CardHead) (body : List ℕ) (begins : Begins (head_numbers head) body) (end : ℕ)
    (is : end ≡ length (numbers (head_numbers head))) (fits : HeadFits m head) where
  pub values_are : (code : Code) → code.letters ≡ head.letters → code.rows ≡ head.rows → length code.locators ≡ head.cells →
      length code.multipliers ≡ head.cells → Are (code.locators ++ code.multipliers) (drop end body) → Values m head body code
  values_are code letters rows first second are =
      let here = subst (λ n. Are (code.locators ++ code.multipliers) (drop n body)) is are in
      record {
        fits = fits;
        letters = letters;
        rows = rows;
        locators = first;
        multipliers = second;
        lists = here;
        written = card_written head body begins code here letters rows first;
      }
