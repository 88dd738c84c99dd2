-- The worked examples compute. This file is checked before those of the theorems, so a wrong definition is refused by the example that it gets wrong.
use mathlib.Core.Path.{refl}
use Rattle.rules.specs.Limits.{opens}
use Rattle.text_rules.specs.Bytes.{class_of}
use Rattle.text_rules.specs.Marks.{marks_from}
use Rattle.text_rules.specs.Digits.{value_from, too_large, number_of}
use Rattle.text_rules.specs.Lines.{head_line, from_head, line_numbers, after_line, left_after, numbers_of}
use Rattle.text_rules.specs.Judgement.{given, fault_from, head_verdict, header_verdict, stranger_from, body_verdict, schedule_verdict}
use Rattle.text_rules.specs.Answers.{header_of, rest_place, schedule_of, area_of}
use Rattle.text_rules.specs.Examples.{bytes, WorkedExamples}

pub worked_examples : WorkedExamples
unfolding opens given class_of marks_from value_from too_large number_of head_line from_head line_numbers after_line left_after numbers_of fault_from head_verdict header_verdict stranger_from body_verdict schedule_verdict header_of rest_place schedule_of area_of bytes
worked_examples = record { headers = refl; schedules = refl; openings = refl; programs = refl; rests = refl; areas = refl }
