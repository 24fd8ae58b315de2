-- A line keeps the headline: what each image of the folder stands for, before it and after it.
use Rattle.std.proofs.Common.{◌≡◌, ℕ, true, false, cond, ◌⊎◌, inl, inr, List, [], ◌∷◌, ◌++◌, Option, refl, sym, ap, ◌∙◌, subst, append_assoc, append-nil}
use Rattle.std.specs.FinMap.{empty}
use Rattle.std.specs.List.{AllByRecursion}
use Rattle.std.specs.Str.{bytes_eq}
use Rattle.std.proofs.lemmas.Bool.{both_ways, cond_both}
use Rattle.std.proofs.lemmas.Slice.Eq.{bytes_eq-Decides}
use Rattle.pb_devices.specs.Contents.{Contents, Folder, MayLeave, IsImage}
use Rattle.pb_keys.specs.Map.{Map}
use Rattle.pb_script.specs.declared.line.Line.{Line}
use Rattle.pb_reply.specs.declared.reply.Reply.{Reply}
use Rattle.pb_machine.specs.Family.{FamilyState, start}
use Rattle.pb_machine.specs.Ran.{Ran}
use Rattle.pb_machine.specs.Agreement.{IsHeld}
use Rattle.pb_machine.specs.Trail.{FindsHistory, states_after}
use Rattle.pb_gate_log.specs.Payloads.{payloads_in}
use Rattle.pebble_cli.specs.Folder.{log_name, Replays, HasFrom}
use Rattle.pebble_cli.specs.Headline.{IsGood, StoodFor, EachReads, IsUndamaged, Headline}
use Rattle.pebble_cli.specs.Lines.{store_a}
use Rattle.pebble_cli.specs.Steps.{as_line}
use Rattle.pebble_cli.specs.StoreStates.{Acts, Finds, IsSetBy, Keeps, map_in, ran_of}
use Rattle.pebble_cli.specs.declared.step.Step.{Step}
use Rattle.pebble_cli.specs.declared.store.Store.{Store}
use Rattle.pebble_cli.specs.declared.store.Store.TheVariants.{Closed, Open, Down}
use Rattle.pebble_cli.proofs.ActFacts.{found_damage}
use Rattle.pebble_cli.proofs.Progress.{RunTo}
use Rattle.pebble_cli.proofs.Alone.{Past, family, family_start, history_of, nothing_past}
use Rattle.pebble_cli.proofs.Moves.{Words, past_after}
use Rattle.pebble_cli.proofs.StepMoves.{moves}
use Rattle.pebble_cli.proofs.Machine.{after_is}
use Rattle.pebble_cli.proofs.Follows.{Stands, Agrees, Begins, Chosen, Follows, follows}
use Rattle.pebble_cli.proofs.Left.{step_image}

-- ---- an image of a file is one of a folder

abbrev folder_of : (disk : Contents) (image : Option (List ℕ)) → Folder
folder_of disk image name = cond (bytes_eq name log_name) image (disk.seen name)

folder_is : (disk : Contents) (image : Option (List ℕ)) → ((name : List ℕ) → MayLeave disk name (disk.seen name))
    → MayLeave disk log_name image → IsImage disk (folder_of disk image)
folder_is disk image seen left name =
    cond_both (bytes_eq name log_name) image (disk.seen name) (MayLeave disk name)
    (λ is. subst (λ (n : List ℕ). MayLeave disk n image) (sym ((bytes_eq-Decides name log_name).0 is)) left) (λ _. seen name)

folder_at : (disk : Contents) (image : Option (List ℕ)) → folder_of disk image log_name ≡ image
folder_at disk image = ap (λ b. cond b image (disk.seen log_name)) ((bytes_eq-Decides log_name log_name).1 refl)

-- ---- the headline between two lines

-- for these maps
pub record Told (entry disk : Contents) (lines rest : List Line) (ran : List Ran) (maps : ℕ → Map) (store : Store)
    (past : Past) : Type 0 where
  pub finds : (more : List Ran) → FindsHistory (StoodFor entry) (family maps store past) rest more
      → FindsHistory (StoodFor entry) (start maps) lines (ran ++ more)
  pub reads : (more : List Ran) → EachReads (family maps store past) rest more → EachReads (start maps) lines (ran ++ more)
  pub undamaged : AllByRecursion IsUndamaged ran
  pub images : (image : Option (List ℕ)) → MayLeave disk log_name image → Stands entry store past image
  pub agrees : Agrees store past
  pub begins : Begins maps store past

told_start : (entry : Contents) (lines : List Line) (maps : ℕ → Map) → ((name : List ℕ) → MayLeave entry name (entry.seen name))
    → IsGood entry
    → Told entry entry lines lines [] maps Closed (nothing_past maps)
told_start entry lines maps seen good = record {
  finds = λ more finds. subst (λ (f : FamilyState). FindsHistory (StoodFor entry) f lines more) (family_start maps) finds;
  reads = λ more reads. subst (λ (f : FamilyState). EachReads f lines more) (family_start maps) reads;
  undamaged = tt;
  images = λ image left.
      let folder = folder_of entry image in
      let is = folder_is entry image seen left in
      let stands = good folder is in (
        stands.0,
        stands.1,
        subst (λ (i : Option (List ℕ)). Replays (payloads_in i) stands.0 stands.1) (folder_at entry image) stands.2,
        (folder, is, stands.2),
      );
  agrees = tt;
  begins = λ _. refl;
}

undamaged_step : (ran : List Ran) (one : Ran) → AllByRecursion IsUndamaged ran → IsUndamaged one
    → AllByRecursion IsUndamaged (ran ++ one ∷ [])
undamaged_step [] one each is = (is, tt)
undamaged_step (r ∷ ran) one each is = (each.0, undamaged_step ran one each.1 is)

module _ (entry old new : Contents) (lines rest : List Line) (ran : List Ran) (before : Store) (step : Step) (reply : Reply) (after : Store)
    (words : Words step) (acts : Acts before step reply after) (keeps : Keeps after new) (seen : MayLeave old log_name (old.seen log_name))
    (found : Finds (payloads_in (old.seen log_name)) step reply (map_in after))
    (crash : (image : Option (List ℕ)) → MayLeave new log_name image → HasFrom old image ⊎ IsSetBy before step image) where
  followed : (maps : ℕ → Map) (past : Past) → Told entry old lines (as_line step ∷ rest) ran maps before past
      → ((history_of before past).has_begun ≡ false → Chosen maps after)
      → Follows entry maps before past step reply after
  followed maps past told chosen =
      follows entry maps (payloads_in (old.seen log_name)) before past step reply after acts
      (moves maps before past step reply after words acts)
      told.agrees told.begins (told.images (old.seen log_name) seen) found chosen

  told_step : (maps : ℕ → Map) (past : Past) → Told entry old lines (as_line step ∷ rest) ran maps before past
      → ((history_of before past).has_begun ≡ false → Chosen maps after)
      → Told entry new lines rest (ran ++ ran_of reply after ∷ []) maps after (past_after before step reply past)
  told_step maps past told chosen =
      let one = ran_of reply after in
      let is = followed maps past told chosen in
      let after_line = after_is maps before past step reply after (moves maps before past step reply after words acts) in
      let stood = told.images (old.seen log_name) seen in
      record {
        finds = λ more finds.
            subst (λ (all : List Ran). FindsHistory (StoodFor entry) (start maps) lines all) (sym (append_assoc ran (one ∷ []) more))
            (told.finds (one ∷ more) (
              is.found,
              subst (λ (f : FamilyState). FindsHistory (StoodFor entry) f rest more)
                  (sym after_line) finds,
            ));
        reads = λ more reads.
            subst (λ (all : List Ran). EachReads (start maps) lines all) (sym (append_assoc ran (one ∷ []) more))
            (told.reads (one ∷ more) (is.read, subst (λ (f : FamilyState). EachReads f rest more) (sym after_line) reads));
        undamaged = undamaged_step ran one told.undamaged
            (λ damage. found_damage (payloads_in (old.seen log_name)) before step reply after
            (map_in after) acts damage found stood.0 stood.1 stood.2);
        images =
            λ image here. step_image entry old new before past step reply after image acts told.agrees is.agrees keeps told.images
            (crash image here) here;
        agrees = is.agrees;
        begins = is.begins;
      }

-- before the first opening the maps may be any; it chooses them
abbrev pub Safe : Contents → Contents → List Line → List Line → List Ran → Store → ((ℕ → Map) → Past) → Type 0
Safe entry disk lines rest ran store past =
    ((maps : ℕ → Map) → Told entry disk lines rest ran maps store (past maps))
    ⊎ ((maps : ℕ → Map) × ((history_of store (past maps)).has_begun ≡ true) × Told entry disk lines rest ran maps store (past maps))

pub safe_start : (entry : Contents) (lines : List Line) → ((name : List ℕ) → MayLeave entry name (entry.seen name)) → IsGood entry
    → Safe entry entry lines lines [] Closed nothing_past
safe_start entry lines seen good = inl (λ maps. told_start entry lines maps seen good)

module _ (entry old new : Contents) (lines rest : List Line) (ran : List Ran) (past : (ℕ → Map) → Past) (before : Store) (step : Step)
    (reply : Reply) where
  chosen_step : (after : Store)
      → ((maps : ℕ → Map) → ((history_of before (past maps)).has_begun ≡ false → Chosen maps after)
      → Told entry new lines rest (ran ++ ran_of reply after ∷ []) maps after (past_after before step reply (past maps)))
      → Safe entry new lines rest (ran ++ ran_of reply after ∷ []) after (λ maps. past_after before step reply (past maps))
  chosen_step (Open held) each = inr ((λ store. held.map), refl, each (λ store. held.map) (λ _. refl))
  chosen_step Closed each = inl (λ maps. each maps (λ _. tt))
  chosen_step Down each = inl (λ maps. each maps (λ _. tt))

  pub safe_step : (after : Store) → Words step → Acts before step reply after → Keeps after new → MayLeave old log_name (old.seen log_name)
      → Finds (payloads_in (old.seen log_name)) step reply (map_in after)
      → ((image : Option (List ℕ)) → MayLeave new log_name image → HasFrom old image ⊎ IsSetBy before step image)
      → Safe entry old lines (as_line step ∷ rest) ran before past
      → Safe entry new lines rest (ran ++ ran_of reply after ∷ []) after (λ maps. past_after before step reply (past maps))
  safe_step after words acts keeps seen found crash safe =
      elim safe [
        | inl each ↦ chosen_step after
            (λ maps chosen. told_step entry old new lines rest ran before step reply after words acts keeps seen found crash maps
            (past maps) (each maps) chosen)
        | inr begun ↦
            let maps = begun.0 in
            let chosen : (history_of before (past maps)).has_begun ≡ false → Chosen maps after =
            λ unbegun. absurd (both_ways (history_of before (past maps)).has_begun unbegun begun.1) in
            let is = followed entry old new lines rest ran before step reply after words acts keeps seen found crash maps
            (past maps) begun.2 chosen in
            inr (
              maps,
              is.begun begun.1,
              told_step entry old new lines rest ran before step reply after words acts keeps seen found crash maps (past maps) begun.2 chosen,
            )
      ]

-- ---- at the end of a run

told_headline : (entry disk : Contents) (lines rest : List Line) (ran : List Ran) (maps : ℕ → Map) (store : Store)
    → (run : RunTo maps lines ran store rest)
    → Told entry disk lines rest ran maps store run.past → Headline entry disk lines ran
told_headline entry disk lines rest ran maps store run told =
    let whole : ran ++ [] ≡ ran = append-nil ran in
    record {
      maps = maps;
      finds = subst (λ (all : List Ran). FindsHistory (StoodFor entry) (start maps) lines all) whole (told.finds [] tt);
      reads = subst (λ (all : List Ran). EachReads (start maps) lines all) whole (told.reads [] tt);
      undamaged = told.undamaged;
      images = λ folder is.
          let stands = told.images (folder log_name) (is log_name) in
          let ended : states_after (start maps) lines ran ≡ family maps store run.past =
          ap (states_after (start maps) lines) (sym whole) ∙ run.so_far.ended [] in (
            stands.0,
            stands.1,
            stands.2,
            subst (λ (f : FamilyState). IsHeld (StoodFor entry) f store_a stands.0 stands.1)
                (sym ended) stands.3,
          );
    }

pub safe_headline : (entry disk : Contents) (lines rest : List Line) (ran : List Ran) (store : Store)
    → (runs : (maps : ℕ → Map) → RunTo maps lines ran store rest)
    → Safe entry disk lines rest ran store (λ maps. (runs maps).past) → Headline entry disk lines ran
safe_headline entry disk lines rest ran store runs safe =
    elim safe [
      | inl each ↦ let maps : ℕ → Map = λ store. empty in told_headline entry disk lines rest ran maps store (runs maps) (each maps)
      | inr begun ↦ told_headline entry disk lines rest ran begun.0 store (runs begun.0) begun.2
    ]

-- of a run before its first line
pub nothing_ran : (entry : Contents) (lines : List Line) → ((name : List ℕ) → MayLeave entry name (entry.seen name)) → IsGood entry
    → Headline entry entry lines []
nothing_ran entry lines seen good = record {
  maps = λ store. empty;
  finds = tt;
  reads = tt;
  undamaged = tt;
  images = λ folder is. let stands = good folder is in (stands.0, stands.1, stands.2, (folder, is, stands.2));
}
