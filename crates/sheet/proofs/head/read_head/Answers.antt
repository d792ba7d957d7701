use Rattle.std.proofs.Common.{refl, arith, rules}
use Rattle.sheet.proofs.Counted.{counted, one_more}
use Rattle.sheet.proofs.head.read_head.Goals as goal

pub returns-in_err-product-clause-says : goal.returns-in_err-product-clause-says
returns-in_err-product-clause-says c =
    let one = counted (omega (arith, c.requires)) c.read_identifier.ensures.reads.counts in
    let two = one_more c.requires 1 refl one c.read_floor.ensures.counts in
    let three = one_more c.requires 2 refl two c.read_product.ensures.counts in
    search rules

pub returns-in_err-read_domax-clause-says : goal.returns-in_err-read_domax-clause-says
returns-in_err-read_domax-clause-says c =
    let one = counted (omega (arith, c.requires)) c.read_identifier.ensures.reads.counts in
    let two = one_more c.requires 1 refl one c.read_floor.ensures.counts in
    let three = one_more c.requires 2 refl two c.read_product.ensures.counts in
    let four = one_more c.requires 3 refl three c.read_domax.ensures.counts in
    search rules

pub returns-in_err-observed-clause-says : goal.returns-in_err-observed-clause-says
returns-in_err-observed-clause-says c =
    let one = counted (omega (arith, c.requires)) c.read_identifier.ensures.reads.counts in
    let two = one_more c.requires 1 refl one c.read_floor.ensures.counts in
    let three = one_more c.requires 2 refl two c.read_product.ensures.counts in
    let four = one_more c.requires 3 refl three c.read_domax.ensures.counts in
    let five = one_more c.requires 4 refl four c.read_mark.ensures.counts in
    search rules

pub returns-in_err-short-clause-says : goal.returns-in_err-short-clause-says
returns-in_err-short-clause-says c =
    let one = counted (omega (arith, c.requires)) c.read_identifier.ensures.reads.counts in
    let two = one_more c.requires 1 refl one c.read_floor.ensures.counts in
    let three = one_more c.requires 2 refl two c.read_product.ensures.counts in
    let four = one_more c.requires 3 refl three c.read_domax.ensures.counts in
    let five = one_more c.requires 4 refl four c.read_mark.ensures.counts in
    let six = one_more c.requires 5 refl five c.read_mark-2.ensures.counts in
    search rules
