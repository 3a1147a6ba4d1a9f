use Rattle.std.proofs.Common.{◌∙◌, Err, ap, subst, sym}
use Rattle.std.specs.Fmt.{decimal}
use Rattle.std.specs.Prelude.{IsUtf8}
use Rattle.std.proofs.lemmas.Fmt.{IsAscii-decimal, parse-decimal}
use Rattle.std.proofs.lemmas.Slice.Eq.{bytes_eq-Decides}
use Rattle.std.proofs.lemmas.Str.{IsUtf8-from_ascii}
use Rattle.request_parts.proofs.Numbers.{no_number, number_found, only_parsed, same_number}
use Rattle.request_parts.proofs.number.number_in_word.Goals as goal

pub returns-in_default : goal.returns-in_default
returns-in_default c = sym (no_number c.args.word.now (λ n fits e. c.in_default.ensures.cases.0 (subst IsUtf8 (sym e) (IsUtf8-from_ascii (decimal n) (IsAscii-decimal n fits)))))

pub returns-in_default-parse : goal.returns-in_default-parse
returns-in_default-parse c = sym (no_number c.args.word.now (λ n fits e. let same = parse-decimal 64 n c.in-Ok.text.now (Err c.in_default-parse.field-0) fits fits (c.in-Ok.ensures.cases.0 ∙ e) c.in_default-parse.ensures.value.0 in absurd cc))

pub returns-then-eq : goal.returns-then-eq
returns-then-eq c =
    let parsed = c.in-Ok-parse.ensures.value.0 in
    let written = (bytes_eq-Decides c.as_bytes.result.now c.args.word.now).0 (sym c.if-eq.ensures) in
    sym (number_found c.args.word.now c.in-Ok-parse.number (same_number parsed.1 parsed.0.1) (sym written ∙ c.as_bytes.ensures.value ∙ c.format.ensures.text))

pub returns : goal.returns
returns c = sym (no_number c.args.word.now (λ n fits e.
    let same = only_parsed c.in-Ok-parse.number n c.in-Ok.text.now fits (c.in-Ok.ensures.cases.0 ∙ e) c.in-Ok-parse.ensures.value.0 in
    let written = c.as_bytes.ensures.value ∙ c.format.ensures.text in
    let found = (bytes_eq-Decides c.as_bytes.result.now c.args.word.now).1 (written ∙ ap decimal same ∙ sym e) in
    absurd (let wrong = c.if-eq.ensures ∙ found in cc)))
