mod Bits
mod Named
