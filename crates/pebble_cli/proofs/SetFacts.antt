-- Commands in a log: what one more makes of them, and that payloads spell one list of commands at most.
use Rattle.std.proofs.Common.{◌≡◌, ℕ, suc, get_or, take, drop, drop-cons, ◌+◌, ◌-◌, ◌<◌, ◌≤◌, ◌^◌, List, [], ◌∷◌, ◌++◌, map, length, refl, sym, ◌∙◌, subst, ap, arith, append-nil}
use Rattle.std.proofs.lemmas.List.{map-append, take-append-drop}
use Rattle.std.specs.List.{AllByRecursion}
use Rattle.std.specs.FinMap.{empty, insert}
use Rattle.pb_bytes.specs.Varint.{field}
use Rattle.pb_bytes.proofs.ReadingLemmas.{one_field}
use Rattle.pebble_cli.specs.Settings.{Set, IsSet, Rises, AreSets, payload_of, map_after, count_after}
use Rattle.pebble_cli.specs.Folder.{Replays, IsRead}
use Rattle.pb_keys.specs.Map.{Map}
use Rattle.pebble_cli.proofs.SettingFacts.{same_count, name_short}

-- ---- one payload, one command

pub record SameSet (a b : Set) : Type 0 where
  pub count : a.count ≡ b.count
  pub key : a.key ≡ b.key
  pub value : a.value ≡ b.value

pub same_set : (a b : Set) → a.count < 2 ^ 62 → b.count < 2 ^ 62 → length a.key < 2 ^ 64 → length a.value < 2 ^ 64 → IsSet b → payload_of a ≡ payload_of b → SameSet a b
same_set a b low below short_key short_value is e =
    let counts = same_count a.count b.count (field a.key ++ field a.value) (field b.key ++ field b.value) low below e in
    let keys = one_field a.key b.key (field a.value) (field b.value) short_key (name_short b.key is.key) counts.1 in
    let values = one_field a.value b.value [] [] short_value (name_short b.value is.value) (append-nil (field a.value) ∙ keys.1 ∙ sym (append-nil (field b.value))) in
    record { count = counts.0; key = keys.0; value = values.0 }

set_is : (a b : Set) → SameSet a b → a ≡ b
set_is a b same =
    ap (λ c. record { count = c; key = a.key; value = a.value }) same.count
    ∙ ap (λ k. record { count = b.count; key = k; value = a.value }) same.key
    ∙ ap (λ v. record { count = b.count; key = b.key; value = v }) same.value

one_set : (a b : Set) → IsSet a → IsSet b → payload_of a ≡ payload_of b → a ≡ b
one_set a b is other e = set_is a b (same_set a b is.count other.count (name_short a.key is.key) (name_short a.value is.value) other e)

head_of : (a b : List ℕ) (xs ys : List (List ℕ)) → a ∷ xs ≡ b ∷ ys → a ≡ b
head_of a b xs ys e = cc

tail_of : (a b : List ℕ) (xs ys : List (List ℕ)) → a ∷ xs ≡ b ∷ ys → xs ≡ ys
tail_of a b xs ys e = cc

same_sets : (xs ys : List Set) → AllByRecursion IsSet xs → AllByRecursion IsSet ys → map payload_of xs ≡ map payload_of ys → xs ≡ ys
same_sets [] [] each other e = refl
same_sets [] (b ∷ ys) each other e = cc
same_sets (a ∷ xs) [] each other e = cc
same_sets (a ∷ xs) (b ∷ ys) each other e =
    ap (λ s. s ∷ xs) (one_set a b each.0 other.0 (head_of (payload_of a) (payload_of b) (map payload_of xs) (map payload_of ys) e))
    ∙ ap (λ ss. b ∷ ss) (same_sets xs ys each.1 other.1 (tail_of (payload_of a) (payload_of b) (map payload_of xs) (map payload_of ys) e))

-- payloads make one count and map at most
pub one_make : (list : List (List ℕ)) (n k : ℕ) (m l : Map) → Replays list n m → Replays list k l → (n ≡ k) × (m ≡ l)
one_make list n k m l a b =
    let same = same_sets a.sets b.sets a.are.each b.are.each (sym a.are.spelled ∙ b.are.spelled) in
    (a.count ∙ ap (count_after 0) same ∙ sym b.count, a.map ∙ ap (map_after empty) same ∙ sym b.map)

-- ---- one command more

-- the least count that a command behind these may have
abbrev pub least_of : List Set → ℕ
least_of [] = 0
least_of (a ∷ []) = a.count + 1
least_of (a ∷ b ∷ sets) = least_of (b ∷ sets)

each_more : (sets : List Set) (set : Set) → AllByRecursion IsSet sets → IsSet set → AllByRecursion IsSet (sets ++ set ∷ [])
each_more [] set each is = (is, tt)
each_more (a ∷ sets) set each is = (each.0, each_more sets set each.1 is)

rises_more : (sets : List Set) (set : Set) → Rises sets → least_of sets ≤ set.count → Rises (sets ++ set ∷ [])
rises_more [] set rises above = tt
rises_more (a ∷ []) set rises above = (omega (arith, above), tt)
rises_more (a ∷ b ∷ sets) set rises above = (rises.0, rises_more (b ∷ sets) set rises.1 above)

least_more : (sets : List Set) (set : Set) → least_of (sets ++ set ∷ []) ≡ set.count + 1
least_more [] set = refl
least_more (a ∷ []) set = refl
least_more (a ∷ b ∷ sets) set = least_more (b ∷ sets) set

map_more : (m : Map) (sets : List Set) (set : Set) → map_after m (sets ++ set ∷ []) ≡ insert (map_after m sets) set.key set.value
map_more m [] set = refl
map_more m (a ∷ sets) set = map_more (insert m a.key a.value) sets set

count_more : (n : ℕ) (sets : List Set) (set : Set) → count_after n (sets ++ set ∷ []) ≡ set.count
count_more n [] set = refl
count_more n (a ∷ sets) set = count_more a.count sets set

least_count : (n : ℕ) (a : Set) (sets : List Set) → count_after n (a ∷ sets) + 1 ≡ least_of (a ∷ sets)
least_count n a [] = refl
least_count n a (b ∷ sets) = least_count a.count b sets

pub least_within : (sets : List Set) → least_of sets ≤ count_after 0 sets + 1
least_within [] = omega arith
least_within (a ∷ sets) = omega (arith, least_count 0 a sets)

pub count_least : (sets : List Set) → count_after 0 sets ≡ least_of sets - 1
count_least [] = refl
count_least (a ∷ sets) = omega (arith, least_count 0 a sets)

are_more : (sets : List Set) (set : Set) (list : List (List ℕ)) → AreSets sets list → IsSet set → least_of sets ≤ set.count → AreSets (sets ++ set ∷ []) (list ++ payload_of set ∷ [])
are_more sets set list are is above = record {
  spelled = ap (λ l. l ++ payload_of set ∷ []) are.spelled ∙ sym (map-append payload_of sets (set ∷ []));
  each = each_more sets set are.each is;
  rises = rises_more sets set are.rises above;
}

-- with one command more the count is one more
pub make_more : (list : List (List ℕ)) (n : ℕ) (m : Map) (key value : List ℕ) → Replays list n m → IsSet (record { count = n + 1; key = key; value = value }) → Replays (list ++ payload_of (record { count = n + 1; key = key; value = value }) ∷ []) (n + 1) (insert m key value)
make_more list n m key value make is =
    let set : Set = record { count = n + 1; key = key; value = value } in
    record {
      sets = make.sets ++ set ∷ [];
      are = are_more make.sets set list make.are is (omega (arith, least_within make.sets, make.count));
      count = sym (count_more 0 make.sets set);
      map = ap (λ before. insert before key value) make.map ∙ sym (map_more empty make.sets set);
    }

-- ---- reading commands one by one

-- the payloads so far are commands that made this map, and the next one's count is at least so much
pub record ReadTo (list : List (List ℕ)) (least : ℕ) (m : Map) : Type 0 where
  pub sets : List Set
  pub are : AreSets sets list
  pub bound : least ≡ least_of sets
  pub map : m ≡ map_after empty sets

pub read_none : ReadTo [] 0 empty
read_none = record { sets = []; are = record { spelled = refl; each = tt; rises = tt }; bound = refl; map = refl }

pub read_more : (list : List (List ℕ)) (payload : List ℕ) (least n : ℕ) (old new : Map) → ReadTo list least old → IsRead payload least n old new → ReadTo (list ++ payload ∷ []) (n + 1) new
read_more list payload least n old new so_far read =
    let set : Set = record { count = n; key = read.key; value = read.value } in
    record {
      sets = so_far.sets ++ set ∷ [];
      are = subst (λ p. AreSets (so_far.sets ++ set ∷ []) (list ++ p ∷ [])) (sym read.spelled) (are_more so_far.sets set list so_far.are read.is (omega (arith, read.above, so_far.bound)));
      bound = sym (least_more so_far.sets set);
      map = read.map ∙ ap (λ before. insert before read.key read.value) so_far.map ∙ sym (map_more empty so_far.sets set);
    }

pub read_all : (list : List (List ℕ)) (least : ℕ) (m : Map) → ReadTo list least m → Replays list (least - 1) m
read_all list least m so_far = record {
  sets = so_far.sets;
  are = so_far.are;
  count = ap (λ l. l - 1) so_far.bound ∙ sym (count_least so_far.sets);
  map = so_far.map;
}

-- a payload behind commands is a command with a count above theirs
pub record Next (payload : List ℕ) (least : ℕ) : Type 0 where
  pub set : Set
  pub is : IsSet set
  pub spelled : payload ≡ payload_of set
  pub above : least ≤ set.count

next : (sets other : List Set) (payload : List ℕ) (rest : List (List ℕ)) → AllByRecursion IsSet sets → AllByRecursion IsSet other → Rises other → map payload_of sets ++ payload ∷ rest ≡ map payload_of other → Next payload (least_of sets)
next [] [] payload rest each is rises e = cc
next [] (s ∷ other) payload rest each is rises e = record {
  set = s;
  is = is.0;
  spelled = head_of payload (payload_of s) rest (map payload_of other) e;
  above = omega arith;
}
next (a ∷ sets) [] payload rest each is rises e = cc
next (a ∷ []) (b ∷ []) payload rest each is rises e = cc
next (a ∷ []) (b ∷ s ∷ other) payload rest each is rises e =
    let same = one_set a b each.0 is.0 (head_of (payload_of a) (payload_of b) (payload ∷ rest) (map payload_of (s ∷ other)) e) in
    let behind = tail_of (payload_of a) (payload_of b) (payload ∷ rest) (map payload_of (s ∷ other)) e in
    record {
      set = s;
      is = is.1.0;
      spelled = head_of payload (payload_of s) rest (map payload_of other) behind;
      above = omega (arith, rises.0, ap (λ (x : Set). x.count) same);
    }
next (a ∷ b ∷ sets) (c ∷ []) payload rest each is rises e = cc
next (a ∷ b ∷ sets) (c ∷ d ∷ other) payload rest each is rises e =
    next (b ∷ sets) (d ∷ other) payload rest each.1 is.1 rises.1
    (tail_of (payload_of a) (payload_of c) (map payload_of (b ∷ sets) ++ payload ∷ rest) (map payload_of (d ∷ other)) e)

pub read_next : (list : List (List ℕ)) (payload : List ℕ) (rest : List (List ℕ)) (least n : ℕ) (m l : Map) → ReadTo list least m → Replays (list ++ payload ∷ rest) n l → Next payload least
read_next list payload rest least n m l so_far make =
    subst (Next payload) (sym so_far.bound)
    (next so_far.sets make.sets payload rest so_far.are.each make.are.each make.are.rises
    (ap (λ front. front ++ payload ∷ rest) (sym so_far.are.spelled) ∙ make.are.spelled))

pub next_from : (list : List (List ℕ)) (payload : List ℕ) (i least n : ℕ) (m l : Map) → i < length list → payload ≡ get_or list i payload → ReadTo (take i list) least m → Replays list n l → Next payload least
next_from list payload i least n m l within is so_far make =
    read_next (take i list) payload (drop (suc i) list) least n m l so_far
    (subst (λ (whole : List (List ℕ)). Replays whole n l)
    (sym (take-append-drop i list) ∙ ap (λ back. take i list ++ back) (drop-cons list i payload within ∙ ap (λ p. p ∷ drop (suc i) list) (sym is))) make)
