-- Two cards with one body have the same values, and the body is not refused.
use Rattle.std.proofs.Common.{◌≡◌, ℕ, ◌+◌, ◌≤◌, ◌⊎◌, List, ◌++◌, length, get_or, take, drop, Err, sym, refl, ap, ◌∙◌, subst, ap₂, subst₂, ⊎_elim, arith}
use Rattle.std.proofs.lemmas.List.{length-append, take_at, drop_at}
use Rattle.algebra.specs.Meaning.{Meaning, with_inverses}
use Rattle.algebra.specs.Alphabet.{Alphabet}
use Rattle.fields.specs.Modulo.{Listed, modulo}
use Rattle.fields.specs.BinaryArithmetic.{modulo_polynomial}
use Rattle.fields.specs.Binary.{BinaryModulus, NoModulus, binary_meaning}
use Rattle.fields.specs.BinaryModulus.{no_modulus}
use Rattle.fields.specs.Prime.{prime_meaning}
use Rattle.fields.specs.LongDivision.{Degree}
use Rattle.fields.specs.declared.prime_field.PrimeField.{PrimeField}
use Rattle.fields.specs.declared.binary_field.BinaryField.{BinaryField}
use Rattle.codes.specs.declared.card.Card as cards
use Rattle.fields.specs.declared.cause.FieldCause.TheVariants.{NoPrime, BadModulus}
use Rattle.fields.specs.ListedPrimes.{listed_small}
use Rattle.fields.specs.PolynomialDegrees.{degree_unique}
use Rattle.codes.specs.Code.{Code}
use Rattle.codes.specs.Cards.{card_code}
use Rattle.codes.specs.Checked.{Sizes, Checked, LocatorsFit, MultipliersFit}
use Rattle.fields.specs.contracts.prime_field.PrimeFieldField.TheImpl as prime_field
use Rattle.fields.specs.contracts.binary_field.BinaryFieldField.TheImpl as binary_field
use Rattle.fields.specs.Kinds.{prime_kind, binary_kind}
use Rattle.tray_file.specs.number.Numbers.{largest_number}
use Rattle.tray_file.specs.declared.fault.body_fault.BodyFault.{BodyFault}
use Rattle.tray_file.specs.declared.fault.body_fault.BodyFault.TheVariants.{BadNumber, BadBody, BadNote, Field, Card, Tag}
use Rattle.tray_file.specs.declared.fault.field_fault.FieldFault.TheVariants.{NoSuchField, Made}
use Rattle.codes.specs.declared.card_cause.CardCause.TheVariants.{BadShape, NoAlphabet, BadLocator, BadMultiplier}
use Rattle.tray_file.specs.declared.body.card_head.CardHead.{CardHead}
use Rattle.codes.specs.declared.any_card.AnyCard.{AnyCard}
use Rattle.codes.specs.declared.any_card.AnyCard.TheVariants.{Prime, Binary}
use Rattle.tray_file.specs.body.NumberLists.{numbers, Small, after, Begins}
use Rattle.tray_file.specs.body.WholeLists.{Are}
use Rattle.tray_file.specs.body.CardHeads.{head_count, head_numbers, HeadShape, PrimeHead, BinaryHead}
use Rattle.tray_file.specs.body.CardBodies.{card_body, ValuesRefused, HeadRefused, RestRefused, PrimeCardIn, BinaryCardIn, CardIn, CardRead}
use Rattle.tray_file.proofs.body_lemmas.NumberLists.{numbers_append, small_append, small_below}
use Rattle.tray_file.proofs.body_lemmas.SameNumbers.{begins_of, are_begins, same_list, missing_never, list_never}

-- two lists joined are told by their lengths
pub split_first : (a b c d : List ℕ) → a ++ b ≡ c ++ d → length a ≡ length c → a ≡ c
split_first a b c d e same = sym (take_at a b (length a) refl) ∙ ap (take (length a)) e ∙ take_at c d (length a) (sym same)

pub split_second : (a b c d : List ℕ) → a ++ b ≡ c ++ d → length a ≡ length c → b ≡ d
split_second a b c d e same = sym (drop_at a b (length a) refl) ∙ ap (drop (length a)) e ∙ drop_at c d (length a) (sym same)

-- A card with these values, over a field with this meaning, and its body.
module _ (m : Meaning) (kind origin : ℕ) (code : Code) (body : List ℕ) (kind_small : kind ≤ largest_number) (origin_small : origin ≤ largest_number)
    (checked : Checked m code) (written : body ≡ card_body kind origin code) where
  abbrev head : CardHead
  head = record { kind = kind; origin = origin; letters = code.letters; cells = length code.locators; rows = code.rows }

  abbrev lists : List ℕ
  lists = code.locators ++ code.multipliers

  head_small : Small (head_numbers head)
  head_small =
      let bound = checked.laws.bounded in
      let shape = checked.shape in
      (kind_small, (origin_small, (omega (arith, bound, checked.alphabet.elements), (omega (arith, shape.sizes.most_cells), (omega (arith, shape.sizes.most_rows), tt)))))

  lists_small : Small lists
  lists_small =
      small_append code.locators code.multipliers
      (small_below m.arithmetic.size code.locators checked.laws.bounded (λ j h. checked.locators.element j h))
      (small_below m.arithmetic.size code.multipliers checked.laws.bounded (λ j h. checked.multipliers.element j h))

  split : body ≡ numbers (head_numbers head) ++ numbers lists
  split = written ∙ numbers_append (head_numbers head) lists

  pub begins : Begins (head_numbers head) body
  begins = begins_of (head_numbers head) body (numbers lists) head_small split

  pub rest_are : Are lists (after (head_numbers head) body)
  rest_are = record {
    small = lists_small;
    bytes_are = ap (drop (length (numbers (head_numbers head)))) split ∙ drop_at (numbers (head_numbers head)) (numbers lists) (length (numbers (head_numbers head))) refl;
  }

  -- every head that stands first is this one
  pub same_head : (other : CardHead) → Begins (head_numbers other) body → head_numbers other ≡ head_numbers head
  same_head other also = same_list (head_numbers other) (head_numbers head) body also begins refl

  -- and every two lists after it, in as many numbers, are these
  pub same_lists : (other : CardHead) → Begins (head_numbers other) body → (locators multipliers : List ℕ) →
      Are (locators ++ multipliers) (after (head_numbers other) body) → length locators ≡ other.cells → length multipliers ≡ other.cells →
      (locators ≡ code.locators) × (multipliers ≡ code.multipliers)
  same_lists other also locators multipliers are count count-2 =
      let same = same_head other also in
      let cells : other.cells ≡ length code.locators = ap (λ (l : List ℕ). get_or l 3 0) same in
      let here = subst (λ (l : List ℕ). Are (locators ++ multipliers) (after l body)) same are in
      let each = checked.shape.a_multiplier_each in
      let long : length (locators ++ multipliers) ≡ length lists = omega (arith, length-append locators multipliers, length-append code.locators code.multipliers) in
      let joined = same_list (locators ++ multipliers) lists (after (head_numbers head) body) (are_begins _ _ here) (are_begins _ _ rest_are) long in
      (split_first locators multipliers code.locators code.multipliers joined (count ∙ cells), split_second locators multipliers code.locators code.multipliers joined (count ∙ cells))

  -- no rule breaks
  pub values_never : (other : CardHead) → Begins (head_numbers other) body → (fault : BodyFault) → ValuesRefused m other body fault → ⊥
  values_never other also fault refused =
      let same = same_head other also in
      let letters : other.letters ≡ code.letters = ap (λ (l : List ℕ). get_or l 2 0) same in
      let cells : other.cells ≡ length code.locators = ap (λ (l : List ℕ). get_or l 3 0) same in
      let rows : other.rows ≡ code.rows = ap (λ (l : List ℕ). get_or l 4 0) same in
      let shape = checked.shape in
      let each = shape.a_multiplier_each in
      let fits : HeadShape other = subst₂ (λ (n k : ℕ). Sizes n k) (sym cells) (sym rows) shape.sizes in
      let are = subst (λ (l : List ℕ). Are lists (after l body)) (sym same) rest_are in
      let count : length lists ≡ other.cells + other.cells = omega (arith, length-append code.locators code.multipliers) in
      by_fault fault refused letters fits are count
    where
      by_fault : (f : BodyFault) → ValuesRefused m other body f → other.letters ≡ code.letters → HeadShape other → Are lists (after (head_numbers other) body) →
          length lists ≡ other.cells + other.cells → ⊥
      by_fault (BadNumber place) broken letters fits are count = list_never (length (numbers (head_numbers other))) (other.cells + other.cells) lists (after (head_numbers other) body) (BadNumber place) are count broken.2
      by_fault BadBody broken letters fits are count = list_never (length (numbers (head_numbers other))) (other.cells + other.cells) lists (after (head_numbers other) body) BadBody are count broken.2
      by_fault (Card BadShape) broken letters fits are count = broken.1 fits
      by_fault (Card NoAlphabet) broken letters fits are count = broken.2 (subst (λ n. Alphabet m.arithmetic n) (sym letters) checked.alphabet)
      by_fault (Card BadLocator) (number, found, values, bad) letters fits are count =
          bad (subst (LocatorsFit m) (sym (same_lists other also found.locators found.multipliers values.lists values.locators values.multipliers).0) checked.locators)
      by_fault (Card BadMultiplier) (number, found, values, good, bad) letters fits are count =
          bad (subst (MultipliersFit m) (sym (same_lists other also found.locators found.multipliers values.lists values.locators values.multipliers).1) checked.multipliers)
      by_fault BadNote broken letters fits are count = broken
      by_fault (Field cause) broken letters fits are count = broken
      by_fault (Tag cause) broken letters fits are count = broken

pub same_code : (a b : Code) → a.letters ≡ b.letters → a.rows ≡ b.rows → a.locators ≡ b.locators → a.multipliers ≡ b.multipliers → a ≡ b
same_code a b letters rows locators multipliers =
    ap₂ (λ n k. record { letters = n; rows = k; locators = a.locators; multipliers = a.multipliers }) letters rows
    ∙ ap₂ (λ (l k : List ℕ). record { letters = b.letters; rows = b.rows; locators = l; multipliers = k }) locators multipliers

-- two cards with one body
module _ (body : List ℕ) (m n : Meaning) (kind origin other-kind other-origin : ℕ) (a b : Code)
    (kind_small : kind ≤ largest_number) (origin_small : origin ≤ largest_number) (kind-small-2 : other-kind ≤ largest_number) (origin-small-2 : other-origin ≤ largest_number)
    (checked : Checked m a) (written : body ≡ card_body kind origin a) (checked-2 : Checked n b) (written_2 : body ≡ card_body other-kind other-origin b) where
  also : Begins (head_numbers (head n other-kind other-origin b body kind-small-2 origin-small-2 checked-2 written_2)) body
  also = begins n other-kind other-origin b body kind-small-2 origin-small-2 checked-2 written_2

  abbrev other : CardHead
  other = record { kind = other-kind; origin = other-origin; letters = b.letters; cells = length b.locators; rows = b.rows }

  heads : head_numbers other ≡ head_numbers (record { kind = kind; origin = origin; letters = a.letters; cells = length a.locators; rows = a.rows })
  heads = same_head m kind origin a body kind_small origin_small checked written other also

  pub one_kind : other-kind ≡ kind
  one_kind = ap (λ (l : List ℕ). get_or l 0 0) heads

  pub one_origin : other-origin ≡ origin
  one_origin = ap (λ (l : List ℕ). get_or l 1 0) heads

  pub one_code : a ≡ b
  one_code =
      let rest = rest_are n other-kind other-origin b body kind-small-2 origin-small-2 checked-2 written_2 in
      let lists-same = same_lists m kind origin a body kind_small origin_small checked written other also b.locators b.multipliers rest refl checked-2.shape.a_multiplier_each in
      same_code a b (sym (ap (λ (l : List ℕ). get_or l 2 0) heads)) (sym (ap (λ (l : List ℕ). get_or l 4 0) heads)) (sym lists-same.0) (sym lists-same.1)

pub never_kinds : (n : ℕ) → n ≡ prime_kind → n ≡ binary_kind → ⊥
never_kinds n e f = omega (arith, e, f)

module _ (body : List ℕ) (card : cards.Card PrimeField prime_field.ghosts) (is : PrimeCardIn body card) where
  prime_origin : card.field.prime ≤ largest_number
  prime_origin = omega (arith, listed_small card.field.prime card.field.listed)

  prime_begins : Begins (head_numbers (record { kind = prime_kind; origin = card.field.prime; letters = (card_code card).letters; cells = length (card_code card).locators; rows = (card_code card).rows })) body
  prime_begins = begins (prime_meaning card.field) prime_kind card.field.prime (card_code card) body (omega arith) prime_origin is.checked is.written

  prime_heads : (other : CardHead) → Begins (head_numbers other) body → (other.kind ≡ prime_kind) × (other.origin ≡ card.field.prime)
  prime_heads other stood =
      let same = same_head (prime_meaning card.field) prime_kind card.field.prime (card_code card) body (omega arith) prime_origin is.checked is.written other stood in
      (ap (λ (l : List ℕ). get_or l 0 0) same, ap (λ (l : List ℕ). get_or l 1 0) same)

  prime_head_never : (fault : BodyFault) → HeadRefused body fault → ⊥
  prime_head_never (BadNumber place) broken = missing_never 0 head_count _ body (BadNumber place) prime_begins (omega arith) broken.1
  prime_head_never BadBody broken = missing_never 0 head_count _ body BadBody prime_begins (omega arith) broken.1
  prime_head_never (Field NoSuchField) (number, other, stood, not-prime, not-binary) = not-prime (prime_heads other stood).0
  prime_head_never (Field (Made NoPrime)) (number, other, stood, kind, not_listed) = not_listed (subst Listed (sym (prime_heads other stood).1) card.field.listed)
  prime_head_never (Field (Made BadModulus)) (number, other, stood, kind, none) = never_kinds other.kind (prime_heads other stood).0 kind
  prime_head_never BadNote broken = broken
  prime_head_never (Card cause) broken = broken
  prime_head_never (Tag cause) broken = broken

  prime_rest_never : (fault : BodyFault) → RestRefused body fault → ⊥
  prime_rest_never fault rest =
      let known = prime_heads rest.head rest.begins in
      ⊎_elim
      (λ (p : PrimeHead rest.head rest.meaning).
      let same : rest.meaning ≡ prime_meaning card.field = p.meaning ∙ ap (λ n. with_inverses (modulo n)) known.1 in
      values_never (prime_meaning card.field) prime_kind card.field.prime (card_code card) body (omega arith) prime_origin is.checked is.written rest.head rest.begins fault
      (subst (λ (m : Meaning). ValuesRefused m rest.head body fault) same rest.refused))
      (λ (b : BinaryHead rest.head rest.meaning). never_kinds rest.head.kind known.0 b.kind)
      rest.field

  pub prime_never : (fault : BodyFault) → HeadRefused body fault ⊎ RestRefused body fault → ⊥
  prime_never fault refused = ⊎_elim (prime_head_never fault) (prime_rest_never fault) refused

module _ (body : List ℕ) (card : cards.Card BinaryField binary_field.ghosts) (is : BinaryCardIn body card) where
  binary_origin : card.field.modulus ≤ largest_number
  binary_origin = omega (arith, card.field.bounded)

  modulus_is : BinaryModulus card.field.modulus card.field.degree
  modulus_is = record {
    irreducible = record { no_constant = card.field.nonconstant; no_product = card.field.unfactored };
    degree = card.field.leading;
    bounded = card.field.bounded;
  }

  binary_begins : Begins (head_numbers (record { kind = binary_kind; origin = card.field.modulus; letters = (card_code card).letters; cells = length (card_code card).locators; rows = (card_code card).rows })) body
  binary_begins = begins (binary_meaning card.field) binary_kind card.field.modulus (card_code card) body (omega arith) binary_origin is.checked is.written

  binary_heads : (other : CardHead) → Begins (head_numbers other) body → (other.kind ≡ binary_kind) × (other.origin ≡ card.field.modulus)
  binary_heads other stood =
      let same = same_head (binary_meaning card.field) binary_kind card.field.modulus (card_code card) body (omega arith) binary_origin is.checked is.written other stood in
      (ap (λ (l : List ℕ). get_or l 0 0) same, ap (λ (l : List ℕ). get_or l 1 0) same)

  binary_head_never : (fault : BodyFault) → HeadRefused body fault → ⊥
  binary_head_never (BadNumber place) broken = missing_never 0 head_count _ body (BadNumber place) binary_begins (omega arith) broken.1
  binary_head_never BadBody broken = missing_never 0 head_count _ body BadBody binary_begins (omega arith) broken.1
  binary_head_never (Field NoSuchField) (number, other, stood, not-prime, not-binary) = not-binary (binary_heads other stood).0
  binary_head_never (Field (Made NoPrime)) (number, other, stood, kind, not_listed) = never_kinds other.kind kind (binary_heads other stood).0
  binary_head_never (Field (Made BadModulus)) (number, other, stood, kind, none) =
      no_modulus card.field.modulus card.field.degree (subst NoModulus (binary_heads other stood).1 none) modulus_is
  binary_head_never BadNote broken = broken
  binary_head_never (Card cause) broken = broken
  binary_head_never (Tag cause) broken = broken

  binary_rest_never : (fault : BodyFault) → RestRefused body fault → ⊥
  binary_rest_never fault rest =
      let known = binary_heads rest.head rest.begins in
      ⊎_elim
      (λ (p : PrimeHead rest.head rest.meaning). never_kinds rest.head.kind p.kind known.0)
      (λ (b : BinaryHead rest.head rest.meaning).
      let degree : b.degree ≡ card.field.degree =
      degree_unique card.field.modulus b.degree card.field.degree (subst (λ f. Degree f b.degree) known.1 b.origin.degree) card.field.leading in
      let same : rest.meaning ≡ binary_meaning card.field = b.meaning ∙ ap₂ (λ f k. with_inverses (modulo_polynomial f k)) known.1 degree in
      values_never (binary_meaning card.field) binary_kind card.field.modulus (card_code card) body (omega arith) binary_origin is.checked is.written rest.head rest.begins fault
      (subst (λ (m : Meaning). ValuesRefused m rest.head body fault) same rest.refused))
      rest.field

  pub binary_never : (fault : BodyFault) → HeadRefused body fault ⊎ RestRefused body fault → ⊥
  binary_never fault refused = ⊎_elim (binary_head_never fault) (binary_rest_never fault) refused

-- the body of a card is not refused
pub card_never : (body : List ℕ) (card : AnyCard) (fault : BodyFault) → CardIn body card → CardRead body (Err fault) → ⊥
card_never body (Prime card) fault is refused = prime_never body card is fault refused
card_never body (Binary card) fault is refused = binary_never body card is fault refused

-- cards over the same field with the same values
abbrev pub SameCard : AnyCard → AnyCard → Type 0
SameCard (Prime a) (Prime b) = (a.field.prime ≡ b.field.prime) × (card_code a ≡ card_code b)
SameCard (Binary a) (Binary b) = (a.field.modulus ≡ b.field.modulus) × (card_code a ≡ card_code b)
SameCard (Prime a) (Binary b) = ⊥
SameCard (Binary a) (Prime b) = ⊥

-- two cards with one body are over the same field and have the same values
pub same_cards : (body : List ℕ) (card found : AnyCard) → CardIn body card → CardIn body found → SameCard card found
same_cards body (Prime card) (Prime found) is read = (
  sym (one_origin body (prime_meaning card.field) (prime_meaning found.field) prime_kind card.field.prime prime_kind found.field.prime (card_code card) (card_code found)
      (omega arith) (prime_origin body card is) (omega arith) (prime_origin body found read) is.checked is.written read.checked read.written),
  one_code body (prime_meaning card.field) (prime_meaning found.field) prime_kind card.field.prime prime_kind found.field.prime (card_code card) (card_code found)
      (omega arith) (prime_origin body card is) (omega arith) (prime_origin body found read) is.checked is.written read.checked read.written,
)
same_cards body (Prime card) (Binary found) is read =
    let same = one_kind body (prime_meaning card.field) (binary_meaning found.field) prime_kind card.field.prime binary_kind found.field.modulus (card_code card) (card_code found)
    (omega arith) (prime_origin body card is) (omega arith) (binary_origin body found read) is.checked is.written read.checked read.written in
    absurd (omega arith)
same_cards body (Binary card) (Prime found) is read =
    let same = one_kind body (binary_meaning card.field) (prime_meaning found.field) binary_kind card.field.modulus prime_kind found.field.prime (card_code card) (card_code found)
    (omega arith) (binary_origin body card is) (omega arith) (prime_origin body found read) is.checked is.written read.checked read.written in
    absurd (omega arith)
same_cards body (Binary card) (Binary found) is read = (
  sym (one_origin body (binary_meaning card.field) (binary_meaning found.field) binary_kind card.field.modulus binary_kind found.field.modulus (card_code card) (card_code found)
      (omega arith) (binary_origin body card is) (omega arith) (binary_origin body found read) is.checked is.written read.checked read.written),
  one_code body (binary_meaning card.field) (binary_meaning found.field) binary_kind card.field.modulus binary_kind found.field.modulus (card_code card) (card_code found)
      (omega arith) (binary_origin body card is) (omega arith) (binary_origin body found read) is.checked is.written read.checked read.written,
)
