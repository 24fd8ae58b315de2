use Rattle.std.proofs.Common.{◌≡◌, ℕ, ◌+◌, ◌-◌, List, take, get_or, sym, ap, subst, ◌∙◌, arith}
use Rattle.pb_mem.specs.Files.{Saved, before_writes}
use Rattle.pb_mem.proofs.FileLemmas.{before_writes-more}
use Rattle.pb_mem.proofs.file.put_all_back.Goals as goal

pub loop-left-preserved : goal.loop-left-preserved
loop-left-preserved c =
    let left = c.loop-left.left - 1 in
    let saved = c.args.saved.now in
    let one : Saved = record { at = c.one.inside.at; bytes = c.one.inside.bytes.items } in
    let stands : one ≡ get_or saved left one = subst (λ (s : Saved). s ≡ get_or saved left s) (sym c.one.view_is) c.index-saved-left.is in
    let again : left + 1 ≡ c.loop-left.left = omega arith in
    record {
      within = omega arith;
      undone = subst (λ (bytes : List ℕ). before_writes (take left saved) bytes ≡ before_writes saved c.args.bytes.now)
          (sym (rw c.deref.ensures.value at c.put_over.ensures))
          (sym (before_writes-more saved left one c.loop-left.bytes (omega arith) stands)
          ∙ ap (λ (n : ℕ). before_writes (take n saved) c.loop-left.bytes) again ∙ c.loop-left.invariant.undone);
    }
