use Rattle.std.proofs.Common.{◌≡◌, ◌++◌, OnOk, false, ℕ, ◌/◌, List, subst, sym, ap, ◌∙◌, append_assoc}
use Rattle.std.specs.String.{string_bytes}
use Rattle.std.specs.Fmt.{digits}
use Rattle.ug_text.specs.Texts.{last_digit}
use Rattle.ug_text.proofs.Hexadecimal.{one_digit, spelled}
use Rattle.ug_text.proofs.address.+write_hexadecimal.Goals as goal

pub returns-then-number-lt16 : goal.returns-then-number-lt16
returns-then-number-lt16 t c =
    subst (λ (text : List ℕ). OnOk c.write_digit.result (string_bytes c.write_digit.new.out ≡ string_bytes c.args.out.now ++ text))
    (sym (one_digit c.args.number c.if-number-lt16.true)) c.write_digit.ensures

pub returns : goal.returns
returns t c =
    let before : string_bytes c.write_hexadecimal.new.out ≡ string_bytes c.args.out.now ++ digits 16 false (c.args.number / 16) = c.in_ok-write_hexadecimal.ensures in
    subst (λ (text : List ℕ). OnOk c.write_digit-2.result (string_bytes c.write_digit-2.new.out ≡ text))
    (ap (λ (text : List ℕ). text ++ last_digit c.args.number) before
    ∙ append_assoc (string_bytes c.args.out.now) (digits 16 false (c.args.number / 16)) (last_digit c.args.number)
    ∙ ap (λ (text : List ℕ). string_bytes c.args.out.now ++ text) (sym (spelled c.args.number c.if-number-lt16.false c.ranges.number.fits))) c.write_digit-2.ensures
