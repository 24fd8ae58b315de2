-- Facts about the value of an answer.
use Rattle.std.proofs.Common.{Option, Some, None, IfSome, IfNone}

pub if_some_both : {T : Type 0} (o : Option T) (P Q R : T → Type 0) → ((x : T) → P x → Q x → R x) → IfSome o P → IfSome o Q → IfSome o R
if_some_both None P Q R f h k = h
if_some_both (Some x) P Q R f h k = f x h k

pub if_none : {T : Type 0} (o : Option T) (P Q : Type 0) → (P → Q) → IfNone o P → IfNone o Q
if_none None P Q f h = f h
if_none (Some x) P Q f h = h
