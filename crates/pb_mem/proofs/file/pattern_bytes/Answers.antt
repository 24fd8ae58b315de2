use Rattle.std.proofs.Common.{◌≡◌, ◌+◌, ◌-◌, [], ◌∷◌, ◌++◌, List, refl, sym, ap, ◌∙◌, arith, append_assoc}
use Rattle.std.proofs.lemmas.Slice.{pushed}
use Rattle.pb_mem.specs.Files.{pattern, pattern_byte}
use Rattle.pb_mem.proofs.FileLemmas.{pattern-more}
use Rattle.pb_mem.proofs.file.pattern_bytes.Goals as goal

pub loop-place-preserved : goal.loop-place-preserved
loop-place-preserved c =
    let place = c.loop-place.place in
    let left = (c.args.at + c.args.n) - place in
    let bytes = c.loop-place.bytes.items in
    let after : (c.args.at + c.args.n) - (place + 1) ≡ left - 1 = omega arith in
    rw (pushed (c.pattern_at.result ∷ []) refl c.in_ok-push.was c.push.ensures.items, c.pattern_at.ensures, after)
    (append_assoc bytes (pattern_byte c.args.pick place ∷ []) (pattern c.args.pick (place + 1) (left - 1)) ∙ ap (λ (rest : List _). bytes ++ rest) (sym (pattern-more c.args.pick place left (omega arith))) ∙ c.loop-place.invariant)
