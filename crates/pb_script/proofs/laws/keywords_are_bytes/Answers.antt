use Rattle.std.proofs.Common.{refl}
use Rattle.pb_script.proofs.ByteLemmas.{byte_off}
use Rattle.pb_script.proofs.FaultLemmas.{off_is_fault}
use Rattle.pb_script.proofs.GraphicWords.{string_graphic, name_graphic, store_graphic, level_graphic}
use Rattle.pb_script.proofs.laws.keywords_are_bytes.Goals as goal

pub returns-clause-strings : goal.returns-clause-strings
returns-clause-strings c = string_graphic

pub returns-clause-names : goal.returns-clause-names
returns-clause-names c = name_graphic

pub returns-clause-stores : goal.returns-clause-stores
returns-clause-stores c = store_graphic

pub returns-clause-levels : goal.returns-clause-levels
returns-clause-levels c = level_graphic

pub returns-clause-lines : goal.returns-clause-lines
returns-clause-lines c = byte_off

pub returns-clause-fault : goal.returns-clause-fault
returns-clause-fault c script front text back there texts before other off =
    off_is_fault script _
    (record {
      front = front;
      text = text;
      back = back;
      there = there;
      texts_are = texts;
      number_is = refl;
      before = before;
      off = byte_off there text other off;
    })
