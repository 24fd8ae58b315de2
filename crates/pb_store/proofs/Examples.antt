-- What definitions give on one store: an entry at each stage, a receive under way, and two numbers in no entry yet.
use Rattle.std.proofs.Common.{◌≡◌, ℕ, true, false, List, [], ◌∷◌, Some, None, refl}
use Rattle.std.specs.Prelude.{map}
use Rattle.pb_counts.specs.declared.user.User.TheVariants.{Handle, Pin, Version}
use Rattle.pb_folder.specs.Said.{Said}
use Rattle.pb_folder.specs.Shown.{Words}
use Rattle.pb_marker_world.specs.declared.stages.Stage.{Stage}
use Rattle.pb_marker_world.specs.declared.stages.Stage.TheVariants.{Intended, Put, Marked, Held, Loose, Bare, Counted, Ended}
use Rattle.pb_marker_world.specs.Bucket.{name_of}
use Rattle.pb_marker_world.specs.Machine.{Marker, identity}
use Rattle.pb_payloads.specs.Catalogue.{Entries}
use Rattle.pb_payloads.specs.Catalogued.Standing.{External, Shared}
use Rattle.pb_recover.specs.Files.{StoreFiles}
use Rattle.pb_recover.specs.First.{first_said, first_version}
use Rattle.pb_store.specs.Around.{Around, around_after, is_lent, is_used, part_after, shown_entry, shown_part}
use Rattle.pb_store.specs.Moves.{named_in, unspent}
use Rattle.pb_store.specs.View.{JobView, StoreView}
use Rattle.pb_store.specs.View.JobKind.{Changes}

-- ---- a store with the id 1

-- 3 and 6 are the store's own objects, 4 and 5 were lent by store 2; 12 is an external object
abbrev pub entries_of_each : Entries
entries_of_each =
    (3, Shared (identity 1 3)) ∷ (4, Shared (identity 2 30)) ∷ (5, Shared (identity 2 31)) ∷ (6, Shared (identity 1 6))
    ∷ (7, Shared (identity 1 7)) ∷ (8, Shared (identity 3 1)) ∷ (9, Shared (identity 3 2)) ∷ (10, Shared (identity 3 3))
    ∷ (11, Shared (identity 3 4)) ∷ (12, External (97 ∷ [])) ∷ []

abbrev pub stage_of_each : List (ℕ × Stage)
stage_of_each =
    (3, Intended) ∷ (4, Intended) ∷ (5, Marked) ∷ (6, Put) ∷ (7, Held) ∷ (8, Loose) ∷ (9, Bare) ∷ (10, Counted) ∷ (11, Ended) ∷ []

abbrev some_files : StoreFiles
some_files = record {
  manifest = record {
    number = 1;
    catalogue = 2;
    next = 16;
    first = 10;
    log = record { file = []; gate = 0; len = 1 };
    current = record { file = []; gate = 0; len = 1 };
  };
  version = first_version;
  provider = record {
    catalogue = record { id = 1; entries = entries_of_each; log = record { file = []; gate = 0; len = 1 } };
    stages = stage_of_each;
    begun = [];
  };
  log = record { file = []; gate = 0; len = 1 };
  commands = [];
  accepted = 0;
  unmade = [];
}

abbrev lent_markers : List Marker
lent_markers = record { object = identity 2 30; store = 2; number = 40 } ∷ record { object = identity 2 31; store = 2; number = 41 } ∷ []

-- a receive of these two, which has drawn 14 and 15 too
abbrev pub receiving : JobView
receiving = record {
  command = None;
  kind = Changes;
  unintended = 14 ∷ 15 ∷ [];
  reads = [];
  made = [];
  so_far = [];
  offers = map (λ m. (name_of m, m.object)) lent_markers;
  absent = None;
  made_calls = 2;
  left = 3;
}

abbrev pub some_store : StoreView
some_store = record {
  files = some_files;
  file_users = record { pairs = []; known = [] };
  object_users = record { pairs = (Version, 7) ∷ (Handle 0, 7) ∷ (Pin 2, 8) ∷ []; known = 7 ∷ 8 ∷ [] };
  fg = Some receiving;
  bg = None;
  is_down = false;
}

abbrev pub some_around : Around
some_around = record { opening = 5; lendings = []; lent = lent_markers }

-- ---- its part

pub an_own_beginning_has_no_lender : shown_entry some_store some_around 3 ≡ Some (record { object = identity 1 3; lender = None; stage = Intended })
an_own_beginning_has_no_lender = refl

pub a_lent_object_awaits_its_lender :
    shown_entry some_store some_around 4
    ≡ Some (record { object = identity 2 30; lender = Some (record { object = identity 2 30; store = 2; number = 40 }); stage = Intended })
a_lent_object_awaits_its_lender = refl

pub a_marked_one_too :
    shown_entry some_store some_around 5
    ≡ Some (record { object = identity 2 31; lender = Some (record { object = identity 2 31; store = 2; number = 41 }); stage = Marked })
a_marked_one_too = refl

pub the_others_have_none :
    map (shown_entry some_store some_around) (6 ∷ 7 ∷ 8 ∷ 9 ∷ 10 ∷ 11 ∷ 12 ∷ 13 ∷ [])
    ≡ Some (record { object = identity 1 6; lender = None; stage = Put })
    ∷ Some (record { object = identity 1 7; lender = None; stage = Held })
    ∷ Some (record { object = identity 3 1; lender = None; stage = Loose })
    ∷ Some (record { object = identity 3 2; lender = None; stage = Bare })
    ∷ Some (record { object = identity 3 3; lender = None; stage = Counted })
    ∷ Some (record { object = identity 3 4; lender = None; stage = Ended })
    ∷ None ∷ None ∷ []
the_others_have_none = refl

pub what_is_unintended_is_unused : map (is_used some_store) (0 ∷ 13 ∷ 14 ∷ 15 ∷ 16 ∷ []) ≡ true ∷ true ∷ false ∷ false ∷ false ∷ []
what_is_unintended_is_unused = refl

-- 7 is a handle's, 8 a pin's alone
pub a_handle_lends : map (is_lent some_store.object_users) (7 ∷ 8 ∷ 9 ∷ []) ≡ true ∷ false ∷ false ∷ []
a_handle_lends = refl

-- ---- once it has ended, or the store fell

abbrev pub ended : StoreView
ended = record some_store { fg = None }

pub a_receive_that_ended_keeps_no_handle : (around_after ended some_around).lent ≡ []
a_receive_that_ended_keeps_no_handle = refl

pub while_it_is_there_it_does : around_after some_store some_around ≡ some_around
while_it_is_there_it_does = refl

-- words with these entries and numbers below 18
abbrev pub some_said : Said
some_said = record first_said {
  version = record first_version {
    backings = record { number = 7; size = 9 } ∷ record { number = 13; size = 9 } ∷ [];
    five = record first_version.five { next = 18 };
  };
  entries = entries_of_each;
}

abbrev pub some_words : Words
some_words = Some some_said

pub what_the_folder_has_used_is_unspent : unspent some_store some_words ≡ 14 ∷ 15 ∷ 16 ∷ 17 ∷ []
what_the_folder_has_used_is_unspent = refl

-- 13 is a local table, and a crash keeps no entry of it
pub a_crash_keeps_what_the_version_names : named_in some_words ≡ 7 ∷ []
a_crash_keeps_what_the_version_names = refl

pub a_fall_opens_once_more : (part_after (record ended { is_down = true }) some_around some_words).opening ≡ 6
a_fall_opens_once_more = refl

pub an_open_store_doesnt : part_after some_store some_around some_words ≡ shown_part some_store some_around
an_open_store_doesnt = refl
