-- What reading gives, step by step, and what a function answers.
use Rattle.std.specs.Prelude.{◌≡◌, Option, Some, None, Result, Ok, Err}
use Rattle.pb_script.specs.declared.fault.WordFault.{WordFault}
use Rattle.pb_script.specs.declared.fault.WordFault.TheVariants.{OffGrammar, NoMemory}

infixl 10 ◌>>=◌
infixl 10 ◌>>◌
-- the next step reads on from what this one gave
abbrev pub ◌>>=◌ : {A B : Type 0} → Option A → (A → Option B) → Option B
(Some x) >>= next = next x
None >>= next = None

-- the next step, where this one gave anything
abbrev pub ◌>>◌ : {A B : Type 0} → Option A → Option B → Option B
(Some x) >> next = next
None >> next = None

abbrev pub Fails : {A : Type 0} → WordFault → Option A → Type 0
Fails OffGrammar read = read ≡ None
Fails NoMemory read = Unit {0}

-- a function answers, seen by view, what reading gives, and a fault where it gives nothing, unless memory ran out
abbrev pub Gives : {A B : Type 0} → (A → B) → Result A WordFault → Option B → Type 0
Gives view (Ok x) read = read ≡ Some (view x)
Gives view (Err fault) read = Fails fault read
