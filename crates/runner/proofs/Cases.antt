-- Whole runs of document 01's cases by computation of the definitions, from object text to answer. Assumes nothing.
use Prim.Native.Nat.{ℕ}
use mathlib.Core.Path.{◌≡◌, refl}
use mathlib.Core.List.{List, [], ◌∷◌, ◌++◌}
use lib.ListN.{get_or, replicate}
use Rattle.base.specs.Numbers.{number_from, bytes_of, value_at}
use Rattle.objtext.specs.Object.{Segment, program, cells, object_text, hex_digit}
use Rattle.objtext.specs.Reader.{read_object, read_data, at_last, on_segment, push, is_last, is_data, is_program, data_at, program_at, after_data, after_program, byte_of, two_of, digit_of, is_content_frame}
use Rattle.objtext.proofs.Exact.{form}
use Rattle.machine.specs.Step.{step}
use Rattle.machine.specs.Run.{run, onward}
use Rattle.runner.specs.Load.{loaded, space_of}
use Rattle.runner.specs.Runner.{Outcome, runner}

-- number, stop, counter, code, count, a register and a word of storage
abbrev summary : ℕ → ℕ → Outcome → List ℕ
summary r a o = o.number ∷ o.stop ∷ o.counter ∷ o.code ∷ o.count ∷ get_or o.regs r 0 ∷ value_at o.store a 4 ∷ []

-- an object's run, from registers and storage of zeros
abbrev ran : List Segment → ℕ → Outcome
ran gs budget = runner (object_text gs) (replicate 16 0) 0 budget (replicate 20480 0)

-- case 1: R1 and the cell are 8 after three instructions, and the code says above zero
abbrev case-1 : List Segment
case-1 =
    program (0x58 ∷ 0x10 ∷ 0xe0 ∷ 0x10 ∷ 0x5a ∷ 0x10 ∷ 0xe0 ∷ 0x14 ∷ 0x50 ∷ 0x10 ∷ 0xe0 ∷ 0x10 ∷ 0x0a ∷ 0 ∷ [])
    ∷ cells (replicate 19 0 ++ (5 ∷ 0 ∷ 0 ∷ 0 ∷ 3 ∷ [])) 16 20 ∷ []

pub case-1-runs : summary 1 8208 (ran case-1 100) ≡ 0 ∷ 1 ∷ 4108 ∷ 2 ∷ 3 ∷ 8 ∷ 8 ∷ []
unfolding runner form object_text hex_digit bytes_of number_from read_object read_data at_last on_segment push is_last is_data is_program data_at program_at after_data
    after_program byte_of two_of digit_of is_content_frame loaded space_of run onward step
case-1-runs = refl

-- case 2: "0 first", so the end is not looked at with the budget used
abbrev case-2 : List Segment
case-2 = program (0x0a ∷ 0 ∷ []) ∷ cells (replicate 16 0) 16 16 ∷ []

pub case-2-ends : summary 15 8192 (ran case-2 1) ≡ 0 ∷ 1 ∷ 4096 ∷ 0 ∷ 0 ∷ 4096 ∷ 4096 ∷ []
unfolding runner form object_text hex_digit bytes_of number_from read_object read_data at_last on_segment push is_last is_data is_program data_at program_at after_data
    after_program byte_of two_of digit_of is_content_frame loaded space_of run onward step
case-2-ends = refl

pub case-2-waits : summary 14 8196 (ran case-2 0) ≡ 0 ∷ 0 ∷ 4096 ∷ 0 ∷ 0 ∷ 8192 ∷ 8192 ∷ []
unfolding runner form object_text hex_digit bytes_of number_from read_object read_data at_last on_segment push is_last is_data is_program data_at program_at after_data
    after_program byte_of two_of digit_of is_content_frame loaded space_of run onward step
case-2-waits = refl

-- case 6: the call leaves length code 2, code 0 and the address of the end in the link, and the return goes there
abbrev case-6 : List Segment
case-6 =
    program (0x47 ∷ 0xf0 ∷ 0xf0 ∷ 0x0a ∷ 0x18 ∷ 0x00 ∷ 0x1a ∷ 0x01 ∷ 0x07 ∷ 0xf5 ∷ 0x45 ∷ 0x50 ∷ 0xf0 ∷ 0x04 ∷ 0x0a ∷ 0x00 ∷ [])
    ∷ cells (replicate 16 0) 16 16 ∷ []

pub case-6-returns : summary 5 8192 (ran case-6 100) ≡ 0 ∷ 1 ∷ 4110 ∷ 0 ∷ 5 ∷ 0x8000100e ∷ 4096 ∷ []
unfolding runner form object_text hex_digit bytes_of number_from read_object read_data at_last on_segment push is_last is_data is_program data_at program_at after_data
    after_program byte_of two_of digit_of is_content_frame loaded space_of run onward step
case-6-returns = refl

-- case 7: the half word is read with its sign through the base of segment 2
abbrev case-7 : List Segment
case-7 =
    program (0x58 ∷ 0xc0 ∷ 0xe0 ∷ 0x08 ∷ 0x48 ∷ 0x20 ∷ 0xc0 ∷ 0x00 ∷ 0x0a ∷ 0x00 ∷ [])
    ∷ cells (replicate 16 0) 16 16 ∷ cells (0xff ∷ 0xff ∷ []) 0 2 ∷ []

pub case-7-reads : summary 2 8200 (ran case-7 100) ≡ 0 ∷ 1 ∷ 4104 ∷ 0 ∷ 2 ∷ 0xffffffff ∷ 12288 ∷ []
unfolding runner form object_text hex_digit bytes_of number_from read_object read_data at_last on_segment push is_last is_data is_program data_at program_at after_data
    after_program byte_of two_of digit_of is_content_frame loaded space_of run onward step
case-7-reads = refl
