-- `records::encoding::encode` meets its contract: each arm computes. Assumes nothing.
use Rattle.records.specs.Bytes.{encoded}
use Rattle.records.proofs.encoding.encode.Goals as goal

pub returns-in-StaticWidth : goal.returns-in-StaticWidth
unfolding encoded
returns-in-StaticWidth c = rw c.in-StaticWidth.is

pub returns-in-DynamicWidth : goal.returns-in-DynamicWidth
unfolding encoded
returns-in-DynamicWidth c = rw c.in-DynamicWidth.is

pub returns-in-Reuse : goal.returns-in-Reuse
unfolding encoded
returns-in-Reuse c = rw c.in-Reuse.is
