-- A payload of a log spells one command with its count, so a list of payloads says one thing.
use Rattle.std.proofs.Common.{◌≡◌, ℕ, ◌^◌, ◌<◌, List, [], ◌∷◌, ◌++◌, length, refl, sym, ap, ◌∙◌, arith, Option, Some, None, append_assoc}
use Rattle.std.specs.Prelude.{IfSome}
use Rattle.std.proofs.lemmas.List.{append-nil, map-append}
use Rattle.std.specs.List.{All}
use Rattle.std.proofs.lemmas.List.Elements.{All-head, All-tail, All-nil, All-cons, All-append}
use Rattle.pb_bytes.specs.Varint.{varint, field}
use Rattle.pb_bytes.proofs.ReadingLemmas.{one_varint, one_field}
use Rattle.pb_keys.specs.Key.{IsKey}
use Rattle.pb_keys.specs.Span.{KeySpan, IsSpan, IsEnd}
use Rattle.pb_payloads.specs.Logged.{Logged, Waiting, IsContent, IsLogged, kind_of, content_of, command_spelling, logged_spelling, ends_spelling, removed_spelling, waiting_spelling}
use Rattle.pb_payloads.specs.Logged.Logged.{Set, Del, DelRange, Ingest}
use Rattle.pb_payloads.specs.Log.{LogEntry, IsEntry, RiseAbove, SaysLog, entry_spelling, last_count}
use Rattle.pb_bytes.proofs.Lists.{one_list}
use Rattle.pb_payloads.proofs.SpellingLaws.{same_first, same_rest, one_last_field, two_fields}

key_fits : (key : List ℕ) → IsKey key → length key < 2 ^ 64
key_fits key in_form = omega (arith, in_form.within)

end_fits : (bytes : List ℕ) → IsEnd bytes → length bytes < 2 ^ 64
end_fits bytes in_form = omega (arith, in_form.within)

same_span : (s t : KeySpan) → s.lo ≡ t.lo → s.hi ≡ t.hi → s ≡ t
same_span s t lo hi = λ i. record { lo = lo i; hi = hi i }

-- the ends of a span, with bytes behind them
pub one_span : (s t : KeySpan) (x y : List ℕ) → IsSpan s → IsSpan t → ends_spelling s ++ x ≡ ends_spelling t ++ y → (s ≡ t) × (x ≡ y)
one_span s t x y s_is t_is same =
    let regrouped : field s.lo ++ (field s.hi ++ x) ≡ field t.lo ++ (field t.hi ++ y) = simp append_assoc at same in
    let first = one_field s.lo t.lo _ _ (end_fits s.lo s_is.lo) (end_fits t.lo t_is.lo) regrouped in
    let second = one_field s.hi t.hi x y (end_fits s.hi s_is.hi) (end_fits t.hi t_is.hi) first.1 in
    (same_span s t first.0 second.0, second.1)

pub one_last_span : (s t : KeySpan) → IsSpan s → IsSpan t → ends_spelling s ≡ ends_spelling t → s ≡ t
one_last_span s t s_is t_is same =
    (one_span s t [] [] s_is t_is (append-nil (ends_spelling s) ∙ same ∙ sym (append-nil (ends_spelling t)))).0

-- the span that an ingest removes, with bytes behind it
one_removed : (s t : Option KeySpan) (x y : List ℕ) → IfSome s IsSpan → IfSome t IsSpan
    → removed_spelling s ++ x ≡ removed_spelling t ++ y → (s ≡ t) × (x ≡ y)
one_removed None None x y s_is t_is same = (refl, same_rest 0 0 x y same)
one_removed None (Some t) x y s_is t_is same = absurd (omega (arith, same_first 0 1 x (ends_spelling t ++ y) same))
one_removed (Some s) None x y s_is t_is same = absurd (omega (arith, same_first 1 0 (ends_spelling s ++ x) y same))
one_removed (Some s) (Some t) x y s_is t_is same =
    let ends = one_span s t x y s_is t_is (same_rest 1 1 (ends_spelling s ++ x) (ends_spelling t ++ y) same) in
    (ap Some ends.0, ends.1)

abbrev HasLowNumber : Waiting → Type 0
HasLowNumber table = table.number < 2 ^ 62

abbrev HasLowSize : Waiting → Type 0
HasLowSize table = table.size < 2 ^ 62

same_table : (a b : Waiting) → a.number ≡ b.number → a.size ≡ b.size → a ≡ b
same_table a b number size = λ i. record { number = number i; size = size i }

-- as many tables
one_waiting : (xs ys : List Waiting) → All HasLowNumber xs → All HasLowSize xs
    → All HasLowNumber ys → All HasLowSize ys
    → length xs ≡ length ys → waiting_spelling xs ≡ waiting_spelling ys → xs ≡ ys
one_waiting [] [] xn xz yn yz len same = refl
one_waiting [] (y ∷ ys) xn xz yn yz len same = absurd (omega arith)
one_waiting (x ∷ xs) [] xn xz yn yz len same = absurd (omega arith)
one_waiting (x ∷ xs) (y ∷ ys) xn xz yn yz len same =
    let x_number : x.number < 2 ^ 62 = All-head HasLowNumber x xs xn in
    let y_number : y.number < 2 ^ 62 = All-head HasLowNumber y ys yn in
    let x_size : x.size < 2 ^ 62 = All-head HasLowSize x xs xz in
    let y_size : y.size < 2 ^ 62 = All-head HasLowSize y ys yz in
    let regrouped : varint x.number ++ (varint x.size ++ waiting_spelling xs) ≡ varint y.number ++ (varint y.size ++ waiting_spelling ys) = simp append_assoc at same in
    let number = one_varint x.number y.number _ _ (omega arith) (omega arith) regrouped in
    let size = one_varint x.size y.size _ _ (omega arith) (omega arith) number.1 in
    let rest = one_waiting xs ys (All-tail HasLowNumber x xs xn) (All-tail HasLowSize x xs xz)
    (All-tail HasLowNumber y ys yn) (All-tail HasLowSize y ys yz) (omega arith) size.1 in
    let table = same_table x y number.0 size.0 in
    cc

one_ingest : (s t : Option KeySpan) (xs ys : List Waiting) → IsContent (Ingest s xs) → IsContent (Ingest t ys)
    → content_of (Ingest s xs) ≡ content_of (Ingest t ys) → Ingest s xs ≡ Ingest t ys
one_ingest s t xs ys x_is y_is same =
    let x_few = x_is.1.few in
    let y_few = y_is.1.few in
    let regrouped : removed_spelling s ++ (varint (length xs) ++ waiting_spelling xs) ≡ removed_spelling t ++ (varint (length ys) ++ waiting_spelling ys) = simp append_assoc at same in
    let removed = one_removed s t _ _ x_is.0 y_is.0 regrouped in
    let number = one_varint (length xs) (length ys) _ _ (omega arith) (omega arith) removed.1 in
    let tables = one_waiting xs ys x_is.1.numbers x_is.1.sizes y_is.1.numbers y_is.1.sizes number.0 number.1 in
    (λ i. Ingest (removed.0 i) (tables i))

-- the same kind is the same case
one_content : (x y : Logged) → kind_of x ≡ kind_of y → IsContent x → IsContent y → content_of x ≡ content_of y → x ≡ y
one_content (Set k v) (Set l w) kind x_is y_is same =
    let parts = two_fields k v l w (key_fits k x_is.0) (omega (arith, x_is.1)) (key_fits l y_is.0) (omega (arith, y_is.1)) same in
    (λ i. Set (parts.0 i) (parts.1 i))
one_content (Set k v) (Del l) kind x_is y_is same = absurd (omega arith)
one_content (Set k v) (DelRange t) kind x_is y_is same = absurd (omega arith)
one_content (Set k v) (Ingest t ys) kind x_is y_is same = absurd (omega arith)
one_content (Del k) (Set l w) kind x_is y_is same = absurd (omega arith)
one_content (Del k) (Del l) kind x_is y_is same = ap Del (one_last_field k l (key_fits k x_is) (key_fits l y_is) same)
one_content (Del k) (DelRange t) kind x_is y_is same = absurd (omega arith)
one_content (Del k) (Ingest t ys) kind x_is y_is same = absurd (omega arith)
one_content (DelRange s) (Set l w) kind x_is y_is same = absurd (omega arith)
one_content (DelRange s) (Del l) kind x_is y_is same = absurd (omega arith)
one_content (DelRange s) (DelRange t) kind x_is y_is same = ap DelRange (one_last_span s t x_is y_is same)
one_content (DelRange s) (Ingest t ys) kind x_is y_is same = absurd (omega arith)
one_content (Ingest s xs) (Set l w) kind x_is y_is same = absurd (omega arith)
one_content (Ingest s xs) (Del l) kind x_is y_is same = absurd (omega arith)
one_content (Ingest s xs) (DelRange t) kind x_is y_is same = absurd (omega arith)
one_content (Ingest s xs) (Ingest t ys) kind x_is y_is same = one_ingest s t xs ys x_is y_is same

-- one spelling, one command, of each kind
pub one_command : (x y : Logged) → IsContent x → IsContent y → command_spelling x ≡ command_spelling y → x ≡ y
one_command x y x_is y_is same =
    one_content x y (same_first _ _ _ _ same) x_is y_is (same_rest _ _ _ _ same)

-- one payload, one count and command
pub one_payload : (m n : ℕ) (x y : Logged) → IsLogged m x → IsLogged n y → logged_spelling m x ≡ logged_spelling n y → (m ≡ n) × (x ≡ y)
one_payload m n x y x_is y_is same =
    let m_low = x_is.low in
    let n_low = y_is.low in
    let count = one_varint m n _ _ (omega arith) (omega arith) same in
    (count.0, one_command x y x_is.command.content y_is.command.content count.1)

pub one_entry : (x y : LogEntry) → IsEntry x → IsEntry y → entry_spelling x ≡ entry_spelling y → x ≡ y
one_entry x y x_is y_is same =
    let parts = one_payload x.count y.count x.command y.command x_is y_is same in
    (λ i. record { count = parts.0 i; command = parts.1 i })

-- the payloads of a log say one list of entries, behind whichever count
pub one_log : (low high : ℕ) (payloads : List (List ℕ)) (xs ys : List LogEntry) → SaysLog low payloads xs → SaysLog high payloads ys → xs ≡ ys
one_log low high payloads xs ys x_says y_says =
    one_list IsEntry entry_spelling one_entry xs ys x_says.in_form y_says.in_form (sym x_says.spelled ∙ y_says.spelled)

-- ---- a log grows

pub empty_log : (flushed : ℕ) → SaysLog flushed [] []
empty_log flushed = record { spelled = refl; in_form = All-nil IsEntry; rise = tt }

rise_more : (count : ℕ) (entries : List LogEntry) (entry : LogEntry) → RiseAbove count entries → last_count count entries < entry.count
    → RiseAbove count (entries ++ entry ∷ [])
rise_more count [] entry rise above = (above, tt)
rise_more count (first ∷ entries) entry rise above = (rise.0, rise_more first.count entries entry rise.1 above)

-- by an entry whose count is above the last
pub log_grows : (flushed : ℕ) (payloads : List (List ℕ)) (entries : List LogEntry) (entry : LogEntry) → SaysLog flushed payloads entries
    → IsEntry entry → last_count flushed entries < entry.count → SaysLog flushed (payloads ++ entry_spelling entry ∷ []) (entries ++ entry ∷ [])
log_grows flushed payloads entries entry says in_form above = record {
  spelled = ap (λ (front : List (List ℕ)). front ++ entry_spelling entry ∷ []) says.spelled ∙ sym (map-append entry_spelling entries (entry ∷ []));
  in_form = All-append IsEntry entries (entry ∷ []) says.in_form (All-cons IsEntry entry [] in_form (All-nil IsEntry));
  rise = rise_more flushed entries entry says.rise above;
}

-- and then the last count is its own
pub last_of_more : (count : ℕ) (entries : List LogEntry) (entry : LogEntry) → last_count count (entries ++ entry ∷ []) ≡ entry.count
last_of_more count [] entry = refl
last_of_more count (first ∷ entries) entry = last_of_more first.count entries entry
