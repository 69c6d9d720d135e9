use Rattle.writing.proofs.Writers.{fills_both}
use Rattle.assignments.specs.Assignment.{header_bytes}
use Rattle.value_file.proofs.bytes.put_header.Goals as goal

pub returns : goal.returns
unfolding header_bytes
returns c =
    let w1 = c.put_word.new.self in
    let w2 = c.put_long.new.self in
    let w3 = c.put_word-2.new.self in
    fills_both c.args.w.now w1 w3 _ _ c.put_word.ensures.0 (fills_both w1 w2 w3 _ _ c.put_long.ensures.0 c.put_word-2.ensures.0)
