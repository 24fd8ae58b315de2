use Rattle.std.proofs.Common.{◌≡◌, List, ℕ, [], sym, ap, subst, ◌∙◌, arith}
use Rattle.std.specs.Prelude.{Some}
use Rattle.std.proofs.lemmas.Bool.Decides.{nat_tests}
use Rattle.std.proofs.lemmas.List.{nil_from_length}
use Rattle.pb_script.specs.Strings.{bytes_of}
use Rattle.pb_script.proofs.Coded.{with_bytes, coded_whole}
use Rattle.pb_script.proofs.spelling.read_coded.Goals as goal

pub returns : goal.returns
returns c =
    let word = c.args.word.now in
    let bytes = c.loop-rest.bytes.items in
    let none = nil_from_length c.loop-rest.rest.now (first_of (omega arith, grind (arith, nat_tests))) in
    let read : bytes_of word ≡ with_bytes bytes (bytes_of []) = subst (λ (r : List ℕ). bytes_of word ≡ with_bytes bytes (bytes_of r)) none c.loop-rest.invariant in
    coded_whole word bytes read ∙ ap (λ (x : List ℕ). Some x) (sym (c.in_ok-new.ensures.ok ∙ c.as_slice.ensures.value))
