use Rattle.std.proofs.Common.{rules}
use Rattle.outside.specs.four_field.FourLaws.{decides_alphabet}
use Rattle.outside.proofs.four_field.FourFieldLetteredField.admits.Goals as goal

pub returns-then-letters-eq2 : goal.returns-then-letters-eq2
returns-then-letters-eq2 c = record { closed = decides_alphabet c.args.letters _ (search rules); only = search rules }

pub returns-else-letters-eq2 : goal.returns-else-letters-eq2
returns-else-letters-eq2 c = record { closed = decides_alphabet c.args.letters _ (search rules); only = search rules }
