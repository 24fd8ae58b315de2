-- What a write behind a name's text leaves.
use Rattle.std.proofs.Common.{◌≡◌, ℕ, ◌+◌, ◌-◌, ◌≤◌, List, ◌++◌, length, take, drop, replicate, sym, ap, ◌∙◌, arith, subst, length-append, length-drop, length-take-le}
use Rattle.std.proofs.lemmas.List.{drop-replicate, drop-drop}
use Rattle.std.proofs.lemmas.Slice.{take-put_mid, drop-put_mid}
use Rattle.std.proofs.lemmas.Str.{IsAscii-append}
use Rattle.std.specs.Str.{IsAscii}
use Rattle.pb_names.specs.Padding.{IsPadded}
use borrow.Rule.Slice.PartMut.{put_mid}

pub IsPadded-put_mid : (len room : ℕ) (bytes text written : List ℕ) → IsPadded len bytes → IsAscii text → len + length text ≤ 64
    → room ≡ length text → written ≡ text → IsPadded (len + length text) (put_mid len room bytes written)
IsPadded-put_mid len room bytes text written padded ascii fits same copied =
    let within : len ≤ length bytes = omega (arith, padded.short, padded.full) in
    let sized : length written ≡ length text = ap length copied in
    let text_is : take (len + length text) (put_mid len room bytes written) ≡ take len bytes ++ written =
    take-put_mid len room bytes written (len + length text) (omega arith) within in
    let rest_is : drop (len + length text) (put_mid len room bytes written) ≡ drop (len + length text) bytes =
    drop-put_mid len room bytes written (len + length text) (omega arith) within (omega arith) in
    record {
      short = fits;
      full = omega (arith, length-append (take len bytes) (written ++ drop room (drop len bytes)), length-append written (drop room (drop len bytes)), length-take-le len bytes within, length-drop room (drop len bytes), length-drop len bytes, padded.full);
      zeros = rest_is ∙ sym (drop-drop (length text) len bytes) ∙ ap (drop (length text)) padded.zeros ∙ drop-replicate (length text) (64 - len) 0 ∙ ap (λ n. replicate n 0) (omega arith);
      ascii = subst IsAscii (sym text_is) (IsAscii-append _ _ padded.ascii (subst IsAscii (sym copied) ascii));
    }
