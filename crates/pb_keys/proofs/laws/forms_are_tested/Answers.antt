use Rattle.pb_keys.proofs.Forms.{key_tests, key_says, end_tests, end_says, span_tests, span_says, value_is, prefix_tests, prefix_says, suffix_tests, suffix_says, mapping_tests, mapping_says, view_tests, view_says}
use Rattle.pb_keys.proofs.laws.forms_are_tested.Goals as goal

pub returns-clause-key : goal.returns-clause-key
returns-clause-key c = λ bytes. (key_says bytes, key_tests bytes)

pub returns-clause-end : goal.returns-clause-end
returns-clause-end c = λ bytes. (end_says bytes, end_tests bytes)

pub returns-clause-span : goal.returns-clause-span
returns-clause-span c = λ span. (span_says span, span_tests span)

pub returns-clause-value : goal.returns-clause-value
returns-clause-value c = λ bytes. value_is bytes

pub returns-clause-prefix : goal.returns-clause-prefix
returns-clause-prefix c = λ bytes. (prefix_says bytes, prefix_tests bytes)

pub returns-clause-suffix : goal.returns-clause-suffix
returns-clause-suffix c = λ bytes. (suffix_says bytes, suffix_tests bytes)

pub returns-clause-mapping : goal.returns-clause-mapping
returns-clause-mapping c = λ view. (mapping_says view, mapping_tests view)

pub returns-clause-view : goal.returns-clause-view
returns-clause-view c = λ view. (view_says view, view_tests view)
