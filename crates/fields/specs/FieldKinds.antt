-- The kinds of fields by their numbers.
use Rattle.std.specs.Prelude.{◌≡◌, ◌≢◌, ℕ, Result, Ok, Err}
use Rattle.fields.specs.Kinds.{prime_kind, binary_kind}
use Rattle.fields.specs.declared.kind.FieldKind.{FieldKind}
use Rattle.fields.specs.declared.kind.FieldKind.TheVariants.{Prime, Binary}
use Rattle.fields.specs.declared.kind.NoSuchField.{NoSuchField}

abbrev pub field_kind_number : FieldKind → ℕ
field_kind_number Prime = prime_kind
field_kind_number Binary = binary_kind

-- the kind that has the number, or nothing where none has it
abbrev pub KindNamed : ℕ → Result FieldKind NoSuchField → Type 0
KindNamed number (Ok kind) = field_kind_number kind ≡ number
KindNamed number (Err _) = (kind : FieldKind) → field_kind_number kind ≢ number
