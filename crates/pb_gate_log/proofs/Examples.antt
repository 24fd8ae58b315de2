-- The definitions, computed on the worked examples.
use Rattle.std.proofs.Common.{◌≡◌, [], ◌∷◌, ◌++◌, refl}
use Rattle.pb_bytes.specs.BigEndian.{be32, number_of}
use Rattle.pb_gate_log.specs.Payloads.{payloads, payloads_of}
use Rattle.pb_gate_log.specs.LogFile.{written}

new_log_has_none : payloads (0 ∷ []) ≡ []
unfolding payloads payloads_of number_of
new_log_has_none = refl

ab_is_spelled : written ((97 ∷ 98 ∷ []) ∷ []) ++ 0 ∷ [] ≡ 1 ∷ 0 ∷ 0 ∷ 0 ∷ 2 ∷ 97 ∷ 98 ∷ 0 ∷ []
unfolding written be32
ab_is_spelled = refl

ab_is_read : payloads (1 ∷ 0 ∷ 0 ∷ 0 ∷ 2 ∷ 97 ∷ 98 ∷ 0 ∷ []) ≡ (97 ∷ 98 ∷ []) ∷ []
unfolding payloads payloads_of number_of
ab_is_read = refl

-- behind an open gate an old entry counts
empty_and_old : payloads (1 ∷ 0 ∷ 0 ∷ 0 ∷ 0 ∷ 1 ∷ 0 ∷ 0 ∷ 0 ∷ 1 ∷ 99 ∷ 7 ∷ []) ≡ [] ∷ (99 ∷ []) ∷ []
unfolding payloads payloads_of number_of
empty_and_old = refl

next_gate_is_missing : payloads (1 ∷ 0 ∷ 0 ∷ 0 ∷ 2 ∷ 97 ∷ 98 ∷ []) ≡ []
unfolding payloads payloads_of number_of
next_gate_is_missing = refl

gate_is_torn : payloads (2 ∷ 0 ∷ 0 ∷ 0 ∷ 2 ∷ 97 ∷ 98 ∷ 0 ∷ []) ≡ []
unfolding payloads payloads_of number_of
gate_is_torn = refl
