-- Laws of decimals and of the line writer's answer; and the demands, proved.
pub mod Decimal
pub mod Answer
pub mod Demands
