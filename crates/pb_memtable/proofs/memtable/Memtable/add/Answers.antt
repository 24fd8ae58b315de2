use Rattle.std.proofs.Common.{◌≡◌, ◌+◌, ◌++◌, ◌∷◌, [], List, cond, sym, ap, ◌∙◌, subst}
use Rattle.pb_memtable.specs.Index.{IsIndex, Fits}
use Rattle.pb_memtable.specs.View.{Commands, all_changing, size_of}
use Rattle.pb_memtable.proofs.CommandLaws.{all_changing-push, size_of-push}
use Rattle.pb_memtable.proofs.KeptLaws.{fits_for, nothing_fits, nothing_holds}
use Rattle.pb_wal.specs.Changes.{changing_of}
use Rattle.pb_wal.specs.declared.entry.Change.{Change}
use Rattle.pb_memtable.proofs.memtable.Memtable.add.Goals as goal

pub invariant_of-self : goal.invariant_of-self
invariant_of-self c =
    let changes = c.self.inside.changes.items in
    let change = c.args.entry.change in
    let fits : Fits c.self.inside = fits_for c.self.inside change c.self.invariant.fits (ap
    (λ (view : Commands). view.room) c.self.view_is ∙ c.requires.room) in
    let items : c.push.new.self.items ≡ changes ++ change ∷ [] = c.push.ensures.items
    ∙ ap (λ b. cond b (changes ++ change ∷ []) changes) (c.push.ensures.succeeds fits.changes) in
    let whole = ap (λ (cs : List Change). cs ++ change ∷ []) c.as_slice.ensures.value ∙ sym items in
    record {
      index = subst (λ (cs : List Change). IsIndex cs c.index.new.places.items c.index.new.dels.items) whole c.index.ensures;
      size = (λ i. c.self.invariant.size i + c.len.ensures.length i) ∙ sym (ap size_of (ap all_changing items
          ∙ all_changing-push changes change) ∙ size_of-push (all_changing changes) (changing_of change));
      room = nothing_holds c.replace-room.new.dest c.index.new.dels.items c.replace-room.ensures.after;
      fits = nothing_fits _ c.replace-room.ensures.after;
    }
