use Rattle.std.proofs.Common.{◌++◌, length, ap, arith, subst}
use Rattle.tray_file.specs.number.Numbers.{number_bytes}
use Rattle.tray_file.specs.reader.RecordKinds.{kind_number}
use Rattle.tray_file.specs.writer.Pages.{Added}
use Rattle.tray_file.proofs.writer_lemmas.Puts.{added_next}
use Rattle.tray_file.proofs.writer_lemmas.RecordPuts.{header_long}
use Rattle.tray_file.proofs.writer.page.Page.put_header.Goals as goal

pub returns : goal.returns
returns c =
    let k = kind_number c.args.kind in
    let size = c.args.size in
    let page = c.args.self.now in
    let long = header_long k size in
    let same = ap (λ n. length (number_bytes n)) c.number.ensures in (
      omega (arith, c.if-self-record_size.false, c.record_size.ensures),
      subst (λ n. Added (number_bytes n ++ number_bytes size) page c.put_number-2.new.self) c.number.ensures
          (added_next (number_bytes c.number.result) (number_bytes size) _ _ _ (omega (arith, c.requires.front, c.if-self-record_size.false, c.record_size.ensures)) c.put_number.ensures c.put_number-2.ensures),
    )
