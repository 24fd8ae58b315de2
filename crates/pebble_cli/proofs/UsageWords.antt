-- What `clap` makes of the words of the usage.
use Rattle.std.proofs.Common.{◌≡◌, ◌≢◌, inl, inr, ap₂, Result, Ok, Err, IfOk, MatchResult, Bool, true, false, List, [], ◌∷◌, Option, Some, None, codes, refl, sym, ap, ◌∙◌, subst}
use Rattle.std.specs.Str.{bytes_eq}
use Rattle.std.proofs.lemmas.Bool.{false≢true, or_parts}
use Rattle.std.proofs.lemmas.Slice.Eq.{bytes_eq-Decides}
use Rattle.std.specs.Prelude.{◌&&◌, ◌||◌, if◌then◌else◌, option_and_then, option_map}
use Rattle.std.specs.List.{list_any}
use Rattle.std.specs.Option.{option_map_or}
use Rattle.clap.specs.Lexer.{strip_byte, long_of, long_of_rest, short_of, short_of_rest}
use Rattle.clap.specs.declared.builder.command.Command.{Command}
use Rattle.clap.specs.declared.builder.command.Command.TheViews.{out-Command as fields_of}
use Rattle.clap.specs.declared.error.Error.{Error}
use Rattle.clap.specs.declared.error.kind.ErrorKind.{ErrorKind}
use Rattle.std.specs.declared.alloc.AllocError.{AllocError}
use Rattle.clap.specs.Words.{AddsSubcommand, HasKind, IsAmong, app_of, kind_of, App, Rule, Text, new_app, with_subcommand, built, fault_of, is_simple_and_free, Kinds}
use Rattle.clap.specs.Simple.{Shape, app_of_fields, new_shape, on_top, names_of, built_leaf, built_above, inherited}
use Rattle.clap.specs.Walk.{Names, Held, Step, Walk, walk, walk_from, walked, nothing_held, subcommand_met, subcommand_or_other, long_or_other, short_or_plain, word_met, arg_by_index, idle, value, trailing}
use Rattle.clap.specs.Faults.{walk_fault, word_fault, other_fault, flag_word_fault, bundle_fault, step_fault, positional_fault, stray_fault, entered_fault}
use Rattle.clap.specs.Kinds.{or_else}
use Rattle.clap.specs.declared.error.kind.ErrorKind.TheVariants as kind
use Rattle.clap.proofs.OnLiterals.{clap_on_literals}
use Rattle.clap.proofs.WalkLemmas.{walk_stopped}
use Rattle.clap.proofs.FaultLemmas.{stopped_fault}
use Rattle.pebble_cli.specs.Usage.{is_run, is_flag}

abbrev pub strict : Shape → Shape
strict s = record s { no_binary_name = true; disable_help_flag = true; disable_help_subcommand = true; subcommand_required = true }

-- the command, with its one subcommand
abbrev pub app : App
app = with_subcommand (on_top strict (new_app (codes "pebble_cli"))) (new_shape (codes "run"))

pub app_is_free : is_simple_and_free app ≡ true
unfolding clap_on_literals
app_is_free = refl

pub no_word : fault_of app [] ≡ kind.MissingSubcommand ∷ []
unfolding clap_on_literals
no_word = refl

pub run_alone : fault_of app (codes "run" ∷ []) ≡ []
unfolding clap_on_literals
run_alone = refl

abbrev pub has_none : Kinds → Bool
has_none [] = true
has_none (k ∷ ks) = false

-- ---- a word that is no flag

long_plain : (word : Text) → is_flag word ≡ false → long_of word ≡ None
long_plain [] plain = refl
long_plain (x ∷ xs) plain = ap (λ (b : Bool). option_and_then long_of_rest (option_and_then (strip_byte 45) (if b then Some xs else None))) plain

short_plain : (word : Text) → is_flag word ≡ false → short_of word ≡ None
short_plain [] plain = refl
short_plain (x ∷ xs) plain = ap (λ (b : Bool). option_and_then short_of_rest (if b then Some xs else None)) plain

dashes_plain : (word : Text) → is_flag word ≡ false → bytes_eq word (45 ∷ 45 ∷ []) ≡ false
dashes_plain [] plain = refl
dashes_plain (x ∷ xs) plain = ap (λ (b : Bool). b && bytes_eq xs (45 ∷ [])) plain

module _ (s : Shape) (names : Names) (h : Held) (word : Text) (plain : is_flag word ≡ false) (other : subcommand_met names idle word ≡ None) where
  no_word_fault : word_fault s names false idle word h ≡ []
  no_word_fault =
      ap (λ (name : Option Text). other_fault s name word h) other
      ∙ ap (λ (b : Bool). if b then [] else flag_word_fault s.rules s.args_override_self (long_of word) word h) (dashes_plain word plain)
      ∙ ap (λ (l : Option (Text × Option Text)). flag_word_fault s.rules s.args_override_self l word h) (long_plain word plain)
      ∙ ap (λ (f : Option Text). option_map_or (λ flags. bundle_fault s.rules s.args_override_self flags h) f []) (short_plain word plain)

  is_value : word_met s.rules names false idle 1 word h ≡ (h, value)
  is_value =
      ap (λ (name : Option Text). subcommand_or_other s.rules name idle 1 word h) other
      ∙ ap (λ (b : Bool). if b then (h, trailing 1) else long_or_other s.rules idle word (long_of word) h) (dashes_plain word plain)
      ∙ ap (λ (l : Option (Text × Option Text)). long_or_other s.rules idle word l h) (long_plain word plain)
      ∙ ap (λ (f : Option Text). short_or_plain s.rules idle word f h) (short_plain word plain)

  stray_word : (rest : List Text) → s.rules ≡ [] → walk_fault s names (walk_from h) (word ∷ rest) ≡ or_else (stray_fault s) (walk_fault s names (walked s.rules names (walk_from h) word) rest)
  unfolding walk_fault
  stray_word rest none =
      ap (λ (k : Kinds). or_else (or_else k (step_fault s 1 (word_met s.rules names false idle 1 word h).0 (word_met s.rules names false idle 1 word h).1))
      (walk_fault s names (walked s.rules names (walk_from h) word) rest)) no_word_fault
      ∙ ap (λ (met : Held × Step). or_else (step_fault s 1 met.0 met.1) (walk_fault s names (walked s.rules names (walk_from h) word) rest)) is_value
      ∙ ap (λ (rules : List Rule). or_else (option_map_or (λ a. positional_fault s.rules s.args_override_self a h) (arg_by_index rules 1) (stray_fault s))
      (walk_fault s names (walked s.rules names (walk_from h) word) rest)) none

-- ---- the words

abbrev top : Shape
top = (built app).top

abbrev names : Names
names = names_of (built app)

abbrev run_shape : Shape
run_shape = built_leaf (inherited (built_above app).top (new_shape (codes "run")))

ne_decided : (b : Bool) → (b ≡ true → ⊥) → b ≡ false
ne_decided true off = absurd (off refl)
ne_decided false _ = refl

is_other : (word : Text) → bytes_eq (codes "run") word ≡ false → bytes_eq word (codes "run") ≡ false
is_other word other = ne_decided (bytes_eq word (codes "run")) (λ same. false≢true (sym other ∙ (bytes_eq-Decides (codes "run") word).1 (sym ((bytes_eq-Decides word (codes "run")).0 same))))

other_word : (word : Text) → bytes_eq (codes "run") word ≡ false → subcommand_met names idle word ≡ None
other_word word other = ap (λ (b : Bool). option_map (λ (s : Text × List Text). s.0) (if b || false then Some (codes "run", []) else None)) other

some_first : (kinds tail : Kinds) → has_none kinds ≡ false → has_none (or_else kinds tail) ≡ false
some_first [] tail some = cc
some_first (k ∷ ks) tail some = refl

some_second : (kinds next tail : Kinds) → kinds ≡ [] → has_none next ≡ false → has_none (or_else kinds (or_else next tail)) ≡ false
some_second [] next tail none some = some_first next tail some
some_second (k ∷ ks) next tail none some = cc

-- a first word that is no subcommand
stray_first : (word : Text) (rest : List Text) → is_flag word ≡ false → bytes_eq (codes "run") word ≡ false → has_none (fault_of app (word ∷ rest)) ≡ false
stray_first word rest plain other =
    some_first (walk_fault top names (walk_from nothing_held) (word ∷ rest)) _ (ap has_none (stray_word top names nothing_held word plain (other_word word other) rest refl))

-- a word behind the subcommand
below : (word : Text) (rest : List Text) → is_flag word ≡ false → has_none (entered_fault (built app) (Some (codes "run", word ∷ rest))) ≡ false
below word rest plain =
    some_first (walk_fault run_shape [] (walk_from nothing_held) (word ∷ rest)) _ (ap has_none (stray_word run_shape [] nothing_held word plain refl rest refl))

run_stops : (words : List Text) → (walk top.rules names nothing_held (codes "run" ∷ words)).stopped ≡ Some (codes "run", words)
unfolding walked
run_stops words = ap (λ (w : Walk). w.stopped) (sym (walk_stopped top.rules names (walk_from nothing_held) (codes "run") [] words))

run_walks : (words : List Text) → walk_fault top names (walk_from nothing_held) (codes "run" ∷ words) ≡ []
unfolding walk_fault walked
run_walks words = stopped_fault top names (walk_from nothing_held) (codes "run", []) words

run_more : (word : Text) (rest : List Text) → is_flag word ≡ false → has_none (fault_of app (codes "run" ∷ word ∷ rest)) ≡ false
run_more word rest plain =
    some_second (walk_fault top names (walk_from nothing_held) (codes "run" ∷ word ∷ rest))
    (entered_fault (built app) (walk top.rules names nothing_held (codes "run" ∷ word ∷ rest)).stopped) _ (run_walks (word ∷ rest))
    (subst (λ (stop : Option (Text × List Text)). has_none (entered_fault (built app) stop) ≡ false) (sym (run_stops (word ∷ rest))) (below word rest plain))

-- ---- the words of the usage

by_first : (word : Text) (rest : List Text) → list_any is_flag (word ∷ rest) ≡ false → (b : Bool) → bytes_eq (codes "run") word ≡ b
    → has_none (fault_of app (word ∷ rest)) ≡ is_run (word ∷ rest)
by_first word [] plain true is = subst (λ (w : Text). has_none (fault_of app (w ∷ [])) ≡ is_run (w ∷ [])) ((bytes_eq-Decides (codes "run") word).0 is) (ap has_none run_alone)
by_first word (next ∷ rest) plain true is =
    subst (λ (w : Text). has_none (fault_of app (w ∷ next ∷ rest)) ≡ false) ((bytes_eq-Decides (codes "run") word).0 is)
    (run_more next rest (or_parts (is_flag next) (list_any is_flag rest) (or_parts (is_flag word) (list_any is_flag (next ∷ rest)) plain).1).0)
by_first word [] plain false other =
    stray_first word [] (or_parts (is_flag word) false plain).0 other ∙ sym (is_other word other)
by_first word (next ∷ rest) plain false other = stray_first word (next ∷ rest) (or_parts (is_flag word) (list_any is_flag (next ∷ rest)) plain).0 other

-- `clap` takes just the words of the usage
pub taken_words : (words : List Text) → list_any is_flag words ≡ false → has_none (fault_of app words) ≡ is_run words
taken_words [] plain = ap has_none no_word
taken_words (word ∷ rest) plain = by_first word rest plain (bytes_eq (codes "run") word) refl

-- ---- the command, as it is made

module _ (c1 c2 c3 c4 : Command) where
  set_strict : (c0 : Command) → app_of c0 ≡ new_app (codes "pebble_cli") → fields_of c1 ≡ record (fields_of c0) { no_binary_name = true }
      → fields_of c2 ≡ record (fields_of c1) { disable_help_flag = true } → fields_of c3 ≡ record (fields_of c2) { disable_help_subcommand = true }
      → fields_of c4 ≡ record (fields_of c3) { subcommand_required = true } → app_of c4 ≡ on_top strict (new_app (codes "pebble_cli"))
  set_strict c0 new name flag help required =
      ap app_of_fields required
      ∙ ap (λ (a : App). on_top (λ s. record s { subcommand_required = true }) a)
      (ap app_of_fields help ∙ ap (λ (a : App). on_top (λ s. record s { disable_help_subcommand = true }) a)
      (ap app_of_fields flag ∙ ap (λ (a : App). on_top (λ s. record s { disable_help_flag = true }) a)
      (ap app_of_fields name ∙ ap (λ (a : App). on_top (λ s. record s { no_binary_name = true }) a) new)))

pub made_app : (c0 c1 c2 c3 c4 run made : Command) → app_of c0 ≡ new_app (codes "pebble_cli") → fields_of c1 ≡ record (fields_of c0) { no_binary_name = true }
    → fields_of c2 ≡ record (fields_of c1) { disable_help_flag = true } → fields_of c3 ≡ record (fields_of c2) { disable_help_subcommand = true }
    → fields_of c4 ≡ record (fields_of c3) { subcommand_required = true } → app_of run ≡ new_app (codes "run") → (fields_of run).has_globals ≡ false
    → AddsSubcommand c4 run made → app_of made ≡ app
made_app c0 c1 c2 c3 c4 run made new name flag help required is_run globals adds =
    adds.shape globals ∙ ap₂ with_subcommand (set_strict c1 c2 c3 c4 c0 new name flag help required) (ap (λ (a : App). a.top) is_run)

-- ---- what a parse tells

pub taken_where : (words : List Text) (a : App) → a ≡ app → list_any is_flag words ≡ false → (is_simple_and_free a ≡ true → fault_of a words ≡ []) → true ≡ is_run words
taken_where words a is plain none =
    sym (ap has_none (subst (λ (b : App). fault_of b words ≡ []) is (none (ap is_simple_and_free is ∙ app_is_free)))) ∙ taken_words words plain

some_kind : (k : ErrorKind) (kinds : Kinds) → IsAmong k kinds → has_none kinds ≡ false
some_kind k [] among = absurd among
some_kind k (x ∷ xs) among = refl

pub refused_where : (words : List Text) (a : App) (e : Error) (r : Result Bool AllocError) → a ≡ app → list_any is_flag words ≡ false → (is_simple_and_free a ≡ true → HasKind (fault_of a words) e)
    → MatchResult r (λ taken. (taken ≡ false) × (kind_of e ≢ kind.OutOfMemory)) (λ _. kind_of e ≡ kind.OutOfMemory) → IfOk r (λ taken. taken ≡ is_run words)
refused_where words a e (Ok taken) is plain has told =
    elim (has (ap is_simple_and_free is ∙ app_is_free)) [
      | inl memory ↦ absurd (told.1 memory)
      | inr among ↦ told.0 ∙ sym (some_kind (kind_of e) (fault_of a words) among) ∙ ap (λ (b : App). has_none (fault_of b words)) is ∙ taken_words words plain
    ]
refused_where words a e (Err failed) is plain has told = tt

-- words of which one is a flag are none of the usage
pub flag_off_usage : (words : List Text) → list_any is_flag words ≡ true → is_run words ≡ false
flag_off_usage [] flag = cc
flag_off_usage (word ∷ []) flag = ne_decided (bytes_eq word (codes "run"))
    (λ same. false≢true (subst (λ (w : Text). list_any is_flag (w ∷ []) ≡ true) ((bytes_eq-Decides word (codes "run")).0 same) flag))
flag_off_usage (word ∷ next ∷ words) flag = refl
