mod Data
