use Rattle.writing.proofs.Writers.{fills_both}
use Rattle.constraints.specs.Circuit.{header_bytes}
use Rattle.square_file.proofs.file.put_header.Goals as goal

pub returns : goal.returns
unfolding header_bytes
returns c = λ ls e.
    let w1 = c.put_word.new.self in
    let w2 = c.put_long.new.self in
    let w3 = c.put_word-2.new.self in
    let w4 = c.put_word-3.new.self in
    let w5 = c.put_word-4.new.self in
    let w6 = c.put_word-5.new.self in
    let w7 = c.put_long-2.new.self in
    let w8 = c.put_word-6.new.self in
    rw e
    (fills_both c.args.w.now w1 w8 _ _ c.put_word.ensures.0
    (fills_both w1 w2 w8 _ _ c.put_long.ensures.0
    (fills_both w2 w3 w8 _ _ c.put_word-2.ensures.0
    (fills_both w3 w4 w8 _ _ c.put_word-3.ensures.0
    (fills_both w4 w5 w8 _ _ c.put_word-4.ensures.0
    (fills_both w5 w6 w8 _ _ c.put_word-5.ensures.0
    (fills_both w6 w7 w8 _ _ c.put_long-2.ensures.0 c.put_word-6.ensures.0)))))))
