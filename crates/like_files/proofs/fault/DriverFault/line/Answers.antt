use Rattle.std.proofs.Common.{◌≡◌, ◌∙◌, ap, sym, true, Result, Ok, Err, None, option_map}
use Rattle.std.specs.Prelude.{OnOk}
use Rattle.std.specs.Result.{is_ok}
use Rattle.std.proofs.lemmas.Bool.{true≢false}
use Rattle.like_files.specs.Lines.{told}
use Rattle.like_files.proofs.fault.DriverFault.line.Goals as goal

written : {A E P : Type 0} (r : Result A E) → OnOk r P → is_ok r ≡ true → P
written (Ok x) h e = h
written (Err fault) h e = absurd (true≢false (sym e))

pub returns-in-None : goal.returns-in-None
returns-in-None g c shown =
    let none : (told c.args.self.now).1 ≡ None = sym c.told.ensures.line ∙ ap (option_map _) c.in-None.is in
    rw (none, ← c.file-file.ensures) (
      c.as_str-text.result.now,
      written c.writeln.result c.writeln.ensures.bytes (sym c.is_ok-in-None.ensures.value ∙ shown),
    )
