use Rattle.std.proofs.Common.{◌≡◌, ◌+◌, refl, arith, rules}
use Rattle.sheet.proofs.Counted.{one_more}
use Rattle.sheet.proofs.read.read_lines.Goals as goal

pub returns-in_err-shape : goal.returns-in_err-shape
returns-in_err-shape c =
    let six = c.in_ok-head.ensures.counts in
    let seven = one_more c.requires.near 6 refl six c.read_shape.ensures.counts in
    search rules

pub returns-in_err-widths : goal.returns-in_err-widths
returns-in_err-widths c =
    let six = c.in_ok-head.ensures.counts in
    let seven = one_more c.requires.near 6 refl six c.read_shape.ensures.counts in
    let eight = one_more c.requires.near 7 refl seven c.read_widths.ensures.counts in
    search rules

pub returns-in_err-priced : goal.returns-in_err-priced
returns-in_err-priced c =
    let six = c.in_ok-head.ensures.counts in
    let seven = one_more c.requires.near 6 refl six c.read_shape.ensures.counts in
    let eight = one_more c.requires.near 7 refl seven c.read_widths.ensures.counts in
    let nine = one_more c.requires.near 8 refl eight c.read_periods.ensures.reads.counts in
    search rules

pub returns-in_err-rows : goal.returns-in_err-rows
returns-in_err-rows c =
    let six = c.in_ok-head.ensures.counts in
    let seven = one_more c.requires.near 6 refl six c.read_shape.ensures.counts in
    let eight = one_more c.requires.near 7 refl seven c.read_widths.ensures.counts in
    let nine = one_more c.requires.near 8 refl eight c.read_periods.ensures.reads.counts in
    let ten : c.read_periods.new.reader.line + 1 ≡ c.args.reader.now.line + 10 = omega (arith, nine) in
    search rules

pub returns-in_err-block : goal.returns-in_err-block
returns-in_err-block c =
    let six = c.in_ok-head.ensures.counts in
    let seven = one_more c.requires.near 6 refl six c.read_shape.ensures.counts in
    let eight = one_more c.requires.near 7 refl seven c.read_widths.ensures.counts in
    let nine = one_more c.requires.near 8 refl eight c.read_periods.ensures.reads.counts in
    let ten : c.read_periods.new.reader.line + 1 ≡ c.args.reader.now.line + 10 = omega (arith, nine) in
    let last : c.read_rows.new.reader.line + 1 ≡ c.args.reader.now.line + 10 + c.in_ok-shape.shape.periods = omega (arith, c.in_ok-rows.ensures.counts) in
    search rules

pub returns : goal.returns
returns c =
    let six = c.in_ok-head.ensures.counts in
    let seven = one_more c.requires.near 6 refl six c.read_shape.ensures.counts in
    let eight = one_more c.requires.near 7 refl seven c.read_widths.ensures.counts in
    let nine = one_more c.requires.near 8 refl eight c.read_periods.ensures.reads.counts in
    let ten : c.read_periods.new.reader.line + 1 ≡ c.args.reader.now.line + 10 = omega (arith, nine) in
    let last : c.read_rows.new.reader.line + 1 ≡ c.args.reader.now.line + 10 + c.in_ok-shape.shape.periods = omega (arith, c.in_ok-rows.ensures.counts) in
    search rules
